-- The run of a choice from turn to turn: what holds of the words before a turn, that the turns up to the least that a train has before it change nothing,
-- and that each turn in which a train is served leaves the same again. Assumes nothing.
use Rattle.std.specs.Prelude.{◌≡◌, Bool, ◌&&◌, List, length, get_or, set, ltb, eqb}
use Rattle.std.proofs.Math.Path.{refl, sym, ap, ap₂}
use Rattle.std.proofs.Common.{◌∙◌, subst, arith, length-set, get_or-set_same, get_or-set_other}
use Rattle.std.proofs.Math.Bool.{true, false, cond}
use Prim.Native.Nat.{ℕ, ◌+◌, ◌-◌, ◌≤◌, ◌<◌}
use Rattle.std.proofs.Math.Decide.{dec_lt}
use Rattle.std.proofs.Math.Dec.{leb}
use borrow.Author.Tests.{ltb-true, leb-true, eqb-true, eqb-false, lt-ltb, le-leb, eq-eqb}
use Rattle.rules.specs.Lists.{fold, below}
use Rattle.words.specs.Spans.{onward}
use Rattle.theory_codes.specs.Codes.{nowhere}
use Rattle.moving.specs.Words.{trains_in, order_in, wanted, lets, entered_in, served_in, nearer}
use Rattle.moving.specs.Words.{turn_minute, turn_element, turn_rank, served_at}
use Rattle.moving.specs.Turns.{least_most, least_each, least_among, fold_skip}
use Rattle.single_laws.specs.Plan.{Planned}
use Rattle.single_laws.specs.Asks.{next_in, due_in, never, held_in, Asks, asks-later, asks-held}
use Rattle.single_laws.specs.Trail.{moves_in, way_in, Left}

-- what holds before turn q
pub record Going (T w a : List ℕ) (q : ℕ) : Type 0 where
  pub left : Left T w a
  -- a train stands at the place of its way that it has come to
  pub places : (k : ℕ) → k < trains_in T → get_or w k 0 ≡ way_in T k (moves_in a k)
  pub placed : (k : ℕ) → k < trains_in T → get_or w k 0 ≤ 65
  pub dues : (k : ℕ) → k < trains_in T → due_in w k < 8589934592
  pub moves : (k : ℕ) → k < trains_in T → moves_in a k ≤ q
  pub asks : (i : ℕ) → i < trains_in T → Asks T w q (get_or a i 0) i

-- turn q is that of a train that is to be served in it
abbrev pub Called : List ℕ → List ℕ → ℕ → Type 0
Called T a q = (turn_rank q < trains_in T) × (get_or a (turn_rank q) 0 ≡ q)

-- ---- what a train asks for

module _ (T w : List ℕ) (t k : ℕ) where
  wanted-next : get_or w k 0 ≤ 65 → due_in w k ≤ t → wanted T t w k ≡ next_in T w k
  unfolding wanted
  wanted-next l h =
      ap (λ (b : Bool). cond b (cond (leb (due_in w k) t) (next_in T w k) nowhere) nowhere) (lt-ltb (get_or w k 0) 128 (omega arith))
      ∙ ap (λ (b : Bool). cond b (next_in T w k) nowhere) (le-leb (due_in w k) t h)

  wanted-asked : wanted T t w k < 65 → (next_in T w k ≡ wanted T t w k) × (due_in w k ≤ t)
  unfolding wanted
  wanted-asked = go (ltb (get_or w k 0) 128) (leb (due_in w k) t) refl
    where
      go : (a b : Bool) → leb (due_in w k) t ≡ b → cond a (cond b (next_in T w k) nowhere) nowhere < 65
          → (next_in T w k ≡ cond a (cond b (next_in T w k) nowhere) nowhere) × (due_in w k ≤ t)
      go true true q h = (refl, leb-true (due_in w k) t q)
      go true false q h = absurd (omega arith)
      go false b q h = absurd (omega arith)

-- ---- turns that change nothing

module _ {T w a : List ℕ} {q : ℕ} (g : Going T w a q) where
  -- before the turns of all trains nobody is let in
  turn-still : (s : ℕ) → q ≤ s → ((i : ℕ) → i < trains_in T → s < get_or a i 0) → served_at T s w ≡ w
  unfolding served_at served_in
  turn-still s from before = go (ltb (turn_element s) 65) (ltb (turn_rank s) (trains_in T)) refl refl
    where
      k : ℕ
      k = order_in T (turn_rank s)

      asked : turn_element s < 65 → turn_rank s < trains_in T → (b : Bool) → eqb (wanted T (turn_minute s) w k) (turn_element s) ≡ b
          → cond b (cond (lets T (turn_minute s) (turn_element s) w) (entered_in T (turn_minute s) (turn_element s) k w) w) w ≡ w
      asked low known true h =
          let same : wanted T (turn_minute s) w k ≡ turn_element s = eqb-true (wanted T (turn_minute s) w k) (turn_element s) h in
          let next = wanted-asked T w (turn_minute s) k (omega arith) in
          let no = (g.asks (turn_rank s) known).held s from (before (turn_rank s) known) refl (sym same ∙ sym next.0) low next.1 in
          ap (λ (b : Bool). cond b (entered_in T (turn_minute s) (turn_element s) k w) w) no
      asked low known false h = refl

      serves : Bool → List ℕ
      serves b = cond b (cond (lets T (turn_minute s) (turn_element s) w) (entered_in T (turn_minute s) (turn_element s) k w) w) w

      go : (b c : Bool) → ltb (turn_element s) 65 ≡ b → ltb (turn_rank s) (trains_in T) ≡ c
          → cond (b && c) (serves (eqb (wanted T (turn_minute s) w k) (turn_element s))) w ≡ w
      go true true h i =
          asked (ltb-true (turn_element s) 65 h) (ltb-true (turn_rank s) (trains_in T) i) (eqb (wanted T (turn_minute s) w k) (turn_element s)) refl
      go true false h i = refl
      go false c h i = refl

  -- the turns from q on may be those from r on, if no train is to be served before
  going-later : (r : ℕ) → q ≤ r → ((i : ℕ) → i < trains_in T → r ≤ get_or a i 0) → Going T w a r
  going-later r from before = record {
    left = g.left;
    places = g.places;
    placed = g.placed;
    dues = g.dues;
    moves = λ k l. omega (arith, g.moves k l);
    asks = λ i l. asks-later (g.asks i l) r from (before i l);
  }

-- ---- the next turn in which a train is served

-- the least of the turns of all trains, and of b
unfoldable pub soonest_in : List ℕ → List ℕ → ℕ → ℕ
soonest_in T a b = fold (λ i c. nearer 0 (get_or a i 0) c) (below (trains_in T)) b

-- the run goes on at turn r as at q
pub record Onward (T w a : List ℕ) (end q r : ℕ) : Type 0 where
  pub from : q ≤ r
  pub most : r ≤ end
  pub going : Going T w a r
  pub called : r < end → Called T a r
  pub rest : fold (served_at T) (onward end q) w ≡ fold (served_at T) (onward end r) w

pub soonest_onward : {T w a : List ℕ} {q end : ℕ} → Going T w a q → q ≤ end → Onward T w a end q (soonest_in T a end)
unfolding soonest_in
soonest_onward {T} {w} {a} {q} {end} g low = record {
  from = from;
  most = most;
  going = going-later g r from each;
  called = called;
  rest =
      let d = r - q in
      let e : q + d ≡ r = omega (arith, from) in
      fold_skip (served_at T) w end d q (omega (arith, most)) (λ s l m. turn-still g s l (λ i h. omega (arith, each i h)))
      ∙ ap (λ (j : ℕ). fold (served_at T) (onward end j) w) e;
}
  where
    r : ℕ
    r = fold (λ i c. nearer 0 (get_or a i 0) c) (below (trains_in T)) end

    most : r ≤ end
    most = least_most 0 (λ i. get_or a i 0) (trains_in T) 0 end

    each : (i : ℕ) → i < trains_in T → r ≤ get_or a i 0
    each i l = least_each 0 (λ j. get_or a j 0) (trains_in T) 0 end i (omega arith) (omega arith) (omega arith)

    from : q ≤ r
    from = least_among 0 (λ i. get_or a i 0) (λ z. q ≤ z) (trains_in T) 0 end low (λ i l m. (g.asks i (omega arith)).from)

    called : r < end → Called T a r
    called =
        least_among 0 (λ i. get_or a i 0) (λ z. z < end → Called T a z) (trains_in T) 0 end (λ h. absurd (omega arith))
        (λ i l m h. let own : turn_rank (get_or a i 0) ≡ i = (g.asks i (omega arith)).rank in (omega arith, ap (λ (j : ℕ). get_or a j 0) own))

-- ---- a turn in which a train is served

module _ {T w a : List ℕ} {q : ℕ} (plan : Planned T) (g : Going T w a q) (c : Called T a q) (soon : q < never) where
  abbrev t : ℕ
  t = turn_minute q

  abbrev e : ℕ
  e = turn_element q

  abbrev i : ℕ
  i = turn_rank q

  abbrev k : ℕ
  k = order_in T i

  own : Asks T w q q i
  own = subst (λ (z : ℕ). Asks T w q z i) c.1 (g.asks i c.0)

  known : k < trains_in T
  known = plan.known i c.0

  few : k < 8
  few = omega (arith, known, plan.few)

  aim : next_in T w k < 65
  aim = by (dec_lt (next_in T w k) 65)
    where
      by : Dec (next_in T w k < 65) → next_in T w k < 65
      by (yes h) = h
      by (no h) = absurd (omega (arith, own.done (omega arith), soon))

  pub turn_aimed : e ≡ next_in T w k
  turn_aimed = own.aims aim

  pub turn-known : k < 8
  turn-known = few

  pub turn-own : e < 65
  turn-own = omega (arith, aim, turn_aimed)

  pub turn-minute : t < 65536
  turn-minute = omega (arith, soon)

  -- the train asks, so that it enters if it is let in
  pub turn_serves : served_at T q w ≡ cond (lets T t e w) (entered_in T t e k w) w
  unfolding served_at served_in
  turn_serves =
      ap₂ (λ (b d : Bool). cond (b && d) (cond (eqb (wanted T t w k) e) (cond (lets T t e w) (entered_in T t e k w) w) w) w)
      (lt-ltb e 65 turn-own) (lt-ltb i (trains_in T) c.0)
      ∙ ap (λ (b : Bool). cond b (cond (lets T t e w) (entered_in T t e k w) w) w)
      (eq-eqb (wanted T t w k) e (wanted-next T w t k (g.placed k known) (own.due aim) ∙ sym turn_aimed))

  -- another train's turn is not this one
  pub turn-apart : (j : ℕ) → j < trains_in T → (j ≡ i → ⊥) → q + 1 ≤ get_or a j 0
  turn-apart j l d = by (dec_lt q (get_or a j 0))
    where
      by : Dec (q < get_or a j 0) → q + 1 ≤ get_or a j 0
      by (yes h) = omega arith
      by (no h) =
          let same : get_or a j 0 ≡ q = omega (arith, (g.asks j l).from) in
          absurd (d (sym (g.asks j l).rank ∙ ap turn_rank same))

  -- ---- held

  module _ (no : lets T t e w ≡ false) {b : List ℕ} (put : b ≡ set a i (held_in T w q)) where
    pub held-served : w ≡ served_at T q w
    held-served = sym (turn_serves ∙ ap (λ (z : Bool). cond z (entered_in T t e k w) w) no)

    put_other : (j : ℕ) → (j ≡ i → ⊥) → get_or b j 0 ≡ get_or a j 0
    put_other j d = ap (λ (l : List ℕ). get_or l j 0) put ∙ get_or-set_other a i j (held_in T w q) 0 d

    put_own : get_or b i 0 ≡ held_in T w q
    put_own = ap (λ (l : List ℕ). get_or l i 0) put ∙ get_or-set_same a i (held_in T w q) 0 (omega (arith, g.left.room))

    pub held-going : Going T w b (q + 1)
    held-going = record {
      left = record {
        size = g.left.size;
        room = ap (λ (l : List ℕ). length l) put ∙ length-set a i (held_in T w q) ∙ g.left.room;
        trod = λ j l f low off. g.left.trod j l f low (λ m p h r. off m p (omega (arith, moved j)) r);
        away = λ j l m. let none = g.left.away j l m in (none.0, none.1, none.2, moved j ∙ none.3);
      };
      places = λ j l. g.places j l ∙ ap (way_in T j) (sym (moved j));
      placed = g.placed;
      dues = g.dues;
      moves = λ j l. omega (arith, moved j, g.moves j l);
      asks = λ j l. by j l (eqb j i) refl;
    }
      where
        moved : (j : ℕ) → moves_in b j ≡ moves_in a j
        moved j = put_other (8 + j) (λ r. omega arith)

        by : (j : ℕ) → j < trains_in T → (d : Bool) → eqb j i ≡ d → Asks T w (q + 1) (get_or b j 0) j
        by j l true h =
            let same : j ≡ i = eqb-true j i h in
            subst (λ (m : ℕ). Asks T w (q + 1) (get_or b m 0) m) (sym same)
            (subst (λ (z : ℕ). Asks T w (q + 1) z i) (sym put_own) (asks-held own turn-minute turn-own aim no))
        by j l false h =
            let other : j ≡ i → ⊥ = eqb-false j i h in
            subst (λ (z : ℕ). Asks T w (q + 1) z j) (sym (put_other j other)) (asks-later (g.asks j l) (q + 1) (omega arith) (turn-apart j l other))
