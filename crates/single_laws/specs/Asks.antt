-- The turn in which a train is to be served next: before it the train is not let in. It is the first turn from some turn on in which the train asks, or,
-- where the train is held, the first after a block has ended. Assumes nothing.
use Rattle.std.specs.Prelude.{◌≡◌, Bool, List, length, get_or}
use Rattle.std.proofs.Math.Path.{refl, sym, ap}
use Rattle.std.proofs.Common.{◌∙◌, arith}
use Rattle.std.proofs.Math.Bool.{true, false, cond}
use Prim.Native.Nat.{ℕ, ◌+◌, ◌*◌, ◌≤◌, ◌<◌}
use Rattle.std.proofs.Math.Dec.{ltb}
use borrow.Author.Tests.{ltb-true, ltb-false, lt-ltb, le-ltb}
use Rattle.moving.specs.Words.{trains_in, order_in, partner_of, lets, entered_in, reopened_in, turn, turn_minute, turn_element, turn_rank}
use Rattle.single_laws.specs.Entering.{entered-others}
use Rattle.single_laws.specs.Held.{reopened_settled, held-still}

-- the code of the element that train k goes to next, and the minute in which it is due
abbrev pub next_in : List ℕ → List ℕ → ℕ → ℕ
next_in T w k = get_or T (240 + k * 128 + get_or w k 0) 0

abbrev pub due_in : List ℕ → ℕ → ℕ
due_in w k = get_or w (8 + k) 0

-- place and due minute of train k are such that no sum of theirs passes 64 bits
abbrev pub FitsOf : List ℕ → ℕ → Type 0
FitsOf w k = (get_or w k 0 ≤ 65) × (due_in w k < 8589934592)

abbrev pub Fits : List ℕ → List ℕ → Type 0
Fits T w = (k : ℕ) → k < trains_in T → FitsOf w k

-- the later of two minutes
unfoldable pub later : ℕ → ℕ → ℕ
later a b = cond (ltb a b) b a

-- the turn z, or, if it is before q, that of the minute after
unfoldable pub not_before : ℕ → ℕ → ℕ
not_before q z = cond (ltb z q) (z + 1024) z

-- the first turn from q on in which a train that is due in minute d, the i-th in order, asks for e
abbrev pub turn_from : ℕ → ℕ → ℕ → ℕ → ℕ
turn_from q d e i = not_before q (turn (later d (turn_minute q)) e i)

-- past all turns of the run
abbrev pub never : ℕ
never = 67108864

-- the first turn from q on in which the i-th train asks for its next element
unfoldable pub ask_in : List ℕ → List ℕ → ℕ → ℕ → ℕ
ask_in T w q i = cond (ltb (next_in T w (order_in T i)) 65) (turn_from q (due_in w (order_in T i)) (next_in T w (order_in T i)) i) (turn 65536 127 i)

-- the first turn of the train of turn q after a block has ended on what it asks for, or on the partner of that
unfoldable pub held_in : List ℕ → List ℕ → ℕ → ℕ
held_in T w q = turn (reopened_in T (turn_minute q) (turn_element q) w 65536) (turn_element q) (turn_rank q)

-- the i-th train is to be served in turn z, and from q until then it is not let in
pub record Asks (T w : List ℕ) (q z i : ℕ) : Type 0 where
  pub rank : turn_rank z ≡ i
  pub from : q ≤ z
  pub aims : next_in T w (order_in T i) < 65 → turn_element z ≡ next_in T w (order_in T i)
  pub due : next_in T w (order_in T i) < 65 → due_in w (order_in T i) ≤ turn_minute z
  -- where it has no next element, it is not served again
  pub done : 65 ≤ next_in T w (order_in T i) → never ≤ z
  pub held : (s : ℕ) → q ≤ s → s < z → turn_rank s ≡ i → turn_element s ≡ next_in T w (order_in T i) → turn_element s < 65
      → due_in w (order_in T i) ≤ turn_minute s → lets T (turn_minute s) (turn_element s) w ≡ false

-- ---- the first turn

pub later_facts : (a b : ℕ) → (a ≤ later a b) × (b ≤ later a b) × ((s : ℕ) → a ≤ s → b ≤ s → later a b ≤ s)
unfolding later
later_facts a b = go (ltb a b) refl
  where
    go : (c : Bool) → ltb a b ≡ c → (a ≤ cond c b a) × (b ≤ cond c b a) × ((s : ℕ) → a ≤ s → b ≤ s → cond c b a ≤ s)
    go true q = let l : a < b = ltb-true a b q in (omega arith, omega arith, λ s f g. g)
    go false q = let l : b ≤ a = ltb-false a b q in (omega arith, omega arith, λ s f g. f)

-- a turn by its parts
parts : (t e i : ℕ) → e < 128 → i < 8 → (turn_minute (turn t e i) ≡ t) × (turn_element (turn t e i) ≡ e) × (turn_rank (turn t e i) ≡ i)
parts t e i l m = (omega arith, omega arith, omega arith)

whole : (s : ℕ) → s ≡ turn (turn_minute s) (turn_element s) (turn_rank s)
whole s = omega arith

whole_as : (s e i : ℕ) → turn_rank s ≡ i → turn_element s ≡ e → s ≡ turn (turn_minute s) e i
whole_as s e i f g = whole s ∙ ap (λ (u : ℕ). turn (turn_minute s) u (turn_rank s)) g ∙ ap (turn (turn_minute s) e) f

-- of one train's turns for one element, a minute apart, that after a turn before q is the first from q on
turn-reach : (q t e i : ℕ) → turn_minute q ≤ t → q ≤ turn t e i + 1024
turn-reach q t e i l = omega arith

turn-next : (t m e i q s : ℕ) → turn t e i < q → q ≤ s → s ≡ turn m e i → turn t e i + 1024 ≤ s
turn-next t m e i q s f g h = omega arith

turn-minutes : (t m e i s : ℕ) → t ≤ m → s ≡ turn m e i → turn t e i ≤ s
turn-minutes t m e i s l h = omega arith

turn-after : (r q t m e i s : ℕ) → q ≡ turn t e i → s ≡ turn m e i → q + 1 ≤ s → s < turn r e i → (t ≤ m) × (m < r)
turn-after r q t m e i s f g h j = (omega arith, omega arith)

record First (q d e i z : ℕ) : Type 0 where
  rank : turn_rank z ≡ i
  aim : turn_element z ≡ e
  due : d ≤ turn_minute z
  from : q ≤ z
  first : (s : ℕ) → q ≤ s → turn_rank s ≡ i → turn_element s ≡ e → d ≤ turn_minute s → z ≤ s

first-turn : (q d e i : ℕ) → e < 128 → i < 8 → First q d e i (turn_from q d e i)
unfolding not_before
first-turn q d e i l m = go (ltb (turn t e i) q) refl
  where
    t : ℕ
    t = later d (turn_minute q)

    go : (b : Bool) → ltb (turn t e i) q ≡ b → First q d e i (cond b (turn t e i + 1024) (turn t e i))
    go true h =
        let facts = later_facts d (turn_minute q) in
        let low : turn t e i < q = ltb-true (turn t e i) q h in
        let next : turn t e i + 1024 ≡ turn (t + 1) e i = omega arith in
        let p = parts (t + 1) e i l m in
        record {
          rank = ap turn_rank next ∙ p.2;
          aim = ap turn_element next ∙ p.1;
          due = omega (arith, ap turn_minute next ∙ p.0, facts.0);
          from = turn-reach q t e i facts.1;
          first = λ s f g a b. turn-next t (turn_minute s) e i q s low f (whole_as s e i g a);
        }
    go false h =
        let facts = later_facts d (turn_minute q) in
        let high : q ≤ turn t e i = ltb-false (turn t e i) q h in
        let p = parts t e i l m in
        record {
          rank = p.2;
          aim = p.1;
          due = omega (arith, p.0, facts.0);
          from = high;
          first = λ s f g a b. turn-minutes t (turn_minute s) e i s (facts.2 (turn_minute s) b (omega arith)) (whole_as s e i g a);
        }

module _ (T w : List ℕ) (q i : ℕ) (few : i < 8) (soon : q ≤ never) where
  -- the first turn in which a train asks is one in which it is to be served
  pub ask-asks : Asks T w q (ask_in T w q i) i
  unfolding ask_in
  ask-asks = go (ltb u 65) refl
    where
      u : ℕ
      u = next_in T w (order_in T i)

      go : (b : Bool) → ltb u 65 ≡ b → Asks T w q (cond b (turn_from q (due_in w (order_in T i)) u i) (turn 65536 127 i)) i
      go true h =
          let low : u < 65 = ltb-true u 65 h in
          let z = first-turn q (due_in w (order_in T i)) u i (omega arith) few in
          record {
            rank = z.rank;
            from = z.from;
            aims = λ l. z.aim;
            due = λ l. z.due;
            done = λ l. absurd (omega arith);
            held = λ s f g a b c d. absurd (omega (arith, z.first s f a b d));
          }
      go false h =
          let high : 65 ≤ u = ltb-false u 65 h in
          let p = parts 65536 127 i (omega arith) few in
          record {
            rank = p.2;
            from = omega arith;
            aims = λ l. absurd (omega arith);
            due = λ l. absurd (omega arith);
            done = λ l. omega arith;
            held = λ s f g a b c d. absurd (omega arith);
          }

-- the turn of the words that are read
module _ (T w : List ℕ) (q i k p e : ℕ) (order : k ≡ order_in T i) (place : p ≡ get_or w k 0) (next : e ≡ get_or T (240 + k * 128 + p) 0) where
  ask-next : e ≡ next_in T w (order_in T i)
  ask-next = next ∙ ap (λ (v : ℕ). get_or T (240 + k * 128 + v) 0) place ∙ ap (next_in T w) order

  pub ask-some : (d t r : ℕ) → e < 65 → d ≡ get_or w (8 + k) 0 → t ≡ later d (turn_minute q) → r ≡ not_before q (turn t e i) → r ≡ ask_in T w q i
  unfolding ask_in
  ask-some d t r low due minute read =
      let on : t ≡ later (due_in w (order_in T i)) (turn_minute q) = minute ∙ ap (λ (v : ℕ). later v (turn_minute q)) (due ∙ ap (due_in w) order) in
      let known : ltb (next_in T w (order_in T i)) 65 ≡ true = lt-ltb (next_in T w (order_in T i)) 65 (omega (arith, ask-next)) in
      read
      ∙ ap (λ (v : ℕ). not_before q (turn v e i)) on
      ∙ ap (λ (u : ℕ). turn_from q (due_in w (order_in T i)) u i) ask-next
      ∙ sym (ap (λ (b : Bool). cond b (turn_from q (due_in w (order_in T i)) (next_in T w (order_in T i)) i) (turn 65536 127 i)) known)

  pub ask-none : 65 ≤ e → turn 65536 127 i ≡ ask_in T w q i
  unfolding ask_in
  ask-none high =
      let none : ltb (next_in T w (order_in T i)) 65 ≡ false = le-ltb (next_in T w (order_in T i)) 65 (omega (arith, ask-next)) in
      sym (ap (λ (b : Bool). cond b (turn_from q (due_in w (order_in T i)) (next_in T w (order_in T i)) i) (turn 65536 127 i)) none)

-- ---- a turn later

module _ {T w : List ℕ} {q z i : ℕ} (a : Asks T w q z i) where
  -- the turns from q on may be those from r on
  pub asks-later : (r : ℕ) → q ≤ r → r ≤ z → Asks T w r z i
  asks-later r l m = record {
    rank = a.rank;
    from = m;
    aims = a.aims;
    due = a.due;
    done = a.done;
    held = λ s f. a.held s (omega arith);
  }

-- a train that is held in its turn is to be served when a block has ended
pub asks-held : {T w : List ℕ} {q i : ℕ} → Asks T w q q i → turn_minute q < 65536 → turn_element q < 65 → next_in T w (order_in T i) < 65
    → lets T (turn_minute q) (turn_element q) w ≡ false → Asks T w (q + 1) (held_in T w q) i
unfolding held_in
asks-held {T} {w} {q} {i} a soon low aim shut =
    let t = turn_minute q in
    let e = turn_element q in
    let r = reopened_in T t e w 65536 in
    let settled = reopened_settled T w t e 65536 soon in
    let p = parts r e (turn_rank q) (omega arith) (omega arith) in
    record {
      rank = p.2 ∙ a.rank;
      from = omega (arith, whole q, settled.1);
      aims = λ l. p.1 ∙ a.aims l;
      due = λ l. omega (arith, p.0, a.due l, settled.1);
      done = λ l. absurd (omega arith);
      held = λ s f g b c d h.
          let same : turn_element s ≡ e = c ∙ sym (a.aims aim) in
          let between = turn-after r q t (turn_minute s) e (turn_rank q) s (whole q) (whole_as s e (turn_rank q) (b ∙ sym a.rank) same) f g in
          ap (λ (u : ℕ). lets T (turn_minute s) u w) same ∙ settled.2 (turn_minute s) between.0 between.1 ∙ shut;
    }

-- ---- another train enters

module _ (T : List ℕ) (t e k : ℕ) (w : List ℕ) (few : k < 8) (place : get_or w k 0 ≤ 65) (size : length w ≡ 544) (all : trains_in T ≤ 8) where
  abbrev after : List ℕ
  after = entered_in T t e k w

  -- u is neither what the train left nor has that for its partner
  abbrev pub Apart : ℕ → Type 0
  Apart u = (u ≡ get_or w k 0 → ⊥) × (partner_of T u ≡ get_or w k 0 → partner_of T u ≡ 0)

  pub asks-other : {q z i : ℕ} → order_in T i < 8 → (order_in T i ≡ k → ⊥) → (next_in T w (order_in T i) < 65 → Apart (next_in T w (order_in T i)))
      → Asks T w q z i → Asks T after q z i
  asks-other {q} {z} {i} low other apart a = record {
    rank = a.rank;
    from = a.from;
    aims = λ l. a.aims (omega (arith, next)) ∙ sym next;
    due = λ l. omega (arith, due-same, a.due (omega (arith, next)));
    done = λ l. a.done (omega (arith, next));
    held = λ s f g b c d h.
        let same : turn_element s ≡ next_in T w (order_in T i) = c ∙ next in
        let far = apart (omega (arith, next)) in
        held-still T t e k w few place size all (turn_minute s) (turn_element s) (λ r. far.0 (sym same ∙ r))
        (λ r. ap (partner_of T) same ∙ far.1 (ap (partner_of T) (sym same) ∙ r))
        (a.held s f g b same d (omega (arith, due-same)));
  }
    where
      place_same : get_or after (order_in T i) 0 ≡ get_or w (order_in T i) 0
      place_same = entered-others T t e k w few place size (order_in T i) (omega arith) other (λ h. omega arith) (λ h. omega arith)

      due-same : due_in after (order_in T i) ≡ due_in w (order_in T i)
      due-same = entered-others T t e k w few place size (8 + order_in T i) (omega arith) (λ h. omega arith) (λ h. other (omega arith)) (λ h. omega arith)

      next : next_in T after (order_in T i) ≡ next_in T w (order_in T i)
      next = ap (λ (p : ℕ). get_or T (240 + order_in T i * 128 + p) 0) place_same
