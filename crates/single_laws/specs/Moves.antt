-- A turn in which a train is let in, and the first turns of a choice: the words before the next turn are again what the run goes on from. Who waited for
-- what the train left is to be served anew; for all others nothing got better. Assumes nothing.
use Rattle.std.specs.Prelude.{◌≡◌, Bool, true, false, ◌&&◌, ◌||◌, cond, set, replicate, ltb}
use Rattle.std.proofs.Math.Path.{refl, ap}
use Rattle.std.proofs.Common.{sym, ◌∙◌, subst, arith, length-set, get_or-set_same, get_or-set_other, eqb-true, lt-ltb, le-ltb, eq-eqb, ne_eqb}
use Rattle.std.proofs.Math.Bool.{false≢true, or-true}
use mathlib.Core.List.{List}
use Prim.Native.Nat.{ℕ, zero, suc, ◌+◌, ◌*◌, ◌≤◌, ◌<◌}
use Rattle.std.proofs.Math.ListN.{length, get_or}
use Rattle.std.proofs.Math.Dec.{eqb}
use Rattle.std.proofs.lemmas.Bool.{eqb-false}
use Rattle.moving.specs.Words.{run_size, trains_in, order_in, partner_of, lets, entered_in, start_in}
use Rattle.moving.specs.Words.{turn_minute, turn_element, turn_rank, served_at}
use Rattle.single_laws.specs.Plan.{Planned}
use Rattle.single_laws.specs.Entering.{entered-size, entered-place, entered-due, entered-others, entered-blocks}
use Rattle.single_laws.specs.Waiting.{first_due, begun-length, begun-other, begun-own}
use Rattle.single_laws.specs.Asks.{next_in, due_in, Fits, never, ask_in, Asks, ask-asks, asks-later, asks-other}
use Rattle.single_laws.specs.Trail.{moves_in, way_in, Cleared, start_again}
use Rattle.single_laws.specs.Going.{Going, Called, turn-known, turn-own, turn_aimed, turn_serves, turn-apart}

-- ---- who is to be served anew

-- the partner of p, or p itself where it has none
unfoldable pub beside_in : List ℕ → ℕ → ℕ
beside_in T p = cond (eqb (partner_of T p) 0) p (partner_of T p)

-- a train with the turn z waits for the element p that was left, or for its partner
unfoldable pub waits_for : List ℕ → ℕ → ℕ → Bool
waits_for T p z = ltb p 65 && (eqb (turn_element z) p || eqb (turn_element z) (beside_in T p))

-- of the turns a the first m are in b as they are to be: from q on anew for those of `who`, and as before for the others
abbrev pub RenewedTo : List ℕ → List ℕ → ℕ → (ℕ → Bool) → List ℕ → ℕ → List ℕ → Type 0
RenewedTo T w q who a m b =
    (length b ≡ length a)
    × ((i : ℕ) → i < m → get_or b i 0 ≡ cond (who (get_or a i 0)) (ask_in T w q i) (get_or a i 0))
    × ((i : ℕ) → m ≤ i → get_or b i 0 ≡ get_or a i 0)

abbrev pub Renewed : List ℕ → List ℕ → ℕ → (ℕ → Bool) → List ℕ → List ℕ → Type 0
Renewed T w q who a b = RenewedTo T w q who a (trains_in T) b

module _ (T w : List ℕ) (q : ℕ) (who : ℕ → Bool) (a : List ℕ) where
  pub renewed_first : RenewedTo T w q who a 0 a
  renewed_first = (refl, λ i l. absurd (omega arith), λ i l. refl)

  -- nobody of `who`
  pub renewed_none : ((z : ℕ) → who z ≡ false) → Renewed T w q who a a
  renewed_none h = (refl, λ i l. sym (ap (λ (b : Bool). cond b (ask_in T w q i) (get_or a i 0)) (h (get_or a i 0))), λ i l. refl)

  module _ (m : ℕ) (b : List ℕ) (r : RenewedTo T w q who a m b) where
    -- one more is as it is to be
    renewed_next : (v : List ℕ) → length v ≡ length a → get_or v m 0 ≡ cond (who (get_or a m 0)) (ask_in T w q m) (get_or a m 0)
        → ((i : ℕ) → (i ≡ m → ⊥) → get_or v i 0 ≡ get_or b i 0) → RenewedTo T w q who a (m + 1) v
    renewed_next v size here others = (size, λ i l. by i l (eqb i m) refl, λ i l. others i (λ h. omega arith) ∙ r.2 i (omega arith))
      where
        by : (i : ℕ) → i < m + 1 → (c : Bool) → eqb i m ≡ c → get_or v i 0 ≡ cond (who (get_or a i 0)) (ask_in T w q i) (get_or a i 0)
        by i l true h =
            let same : i ≡ m = eqb-true i m h in
            subst (λ (j : ℕ). get_or v j 0 ≡ cond (who (get_or a j 0)) (ask_in T w q j) (get_or a j 0)) (sym same) here
        by i l false h = let other : i ≡ m → ⊥ = eqb-false i m h in others i other ∙ r.1 i (omega arith)

    pub renewed_put : m < length a → who (get_or b m 0) ≡ true → RenewedTo T w q who a (m + 1) (set b m (ask_in T w q m))
    renewed_put l h =
        let was : who (get_or a m 0) ≡ true = ap who (sym (r.2 m (omega arith))) ∙ h in
        renewed_next (set b m (ask_in T w q m)) (length-set b m (ask_in T w q m) ∙ r.0)
        (get_or-set_same b m (ask_in T w q m) 0 (omega (arith, r.0)) ∙ sym (ap (λ (c : Bool). cond c (ask_in T w q m) (get_or a m 0)) was))
        (λ i d. get_or-set_other b m i (ask_in T w q m) 0 d)

    pub renewed_keep : who (get_or b m 0) ≡ false → RenewedTo T w q who a (m + 1) b
    renewed_keep h =
        let was : who (get_or a m 0) ≡ false = ap who (sym (r.2 m (omega arith))) ∙ h in
        renewed_next b r.0 (r.2 m (omega arith) ∙ sym (ap (λ (c : Bool). cond c (ask_in T w q m) (get_or a m 0)) was)) (λ i d. refl)

-- nobody waits for what is outside
pub waits-outside : (T : List ℕ) (p z : ℕ) → 65 ≤ p → waits_for T p z ≡ false
unfolding waits_for
waits-outside T p z l = ap (λ (b : Bool). b && (eqb (turn_element z) p || eqb (turn_element z) (beside_in T p))) (le-ltb p 65 l)

-- the two tests that tell who waits
pub waits_test : (T : List ℕ) (p z o : ℕ) (b : Bool) → p < 65 → o ≡ beside_in T p → (eqb (turn_element z) p || eqb (turn_element z) o) ≡ b → waits_for T p z ≡ b
unfolding waits_for
waits_test T p z o b l e h =
    ap (λ (x : Bool). x && (eqb (turn_element z) p || eqb (turn_element z) (beside_in T p))) (lt-ltb p 65 l)
    ∙ ap (λ (u : ℕ). eqb (turn_element z) p || eqb (turn_element z) u) (sym e)
    ∙ h

-- who does not wait for what was left, nor for its partner
module _ {T : List ℕ} (plan : Planned T) (p z : ℕ) (no : waits_for T p z ≡ false) where
  -- is after something else
  waits-own : turn_element z < 65 → turn_element z ≡ p → ⊥
  unfolding waits_for
  waits-own low h =
      false≢true (sym no ∙ ap (λ (b : Bool). b && (eqb (turn_element z) p || eqb (turn_element z) (beside_in T p))) (lt-ltb p 65 (omega arith))
      ∙ ap (λ (b : Bool). b || eqb (turn_element z) (beside_in T p)) (eq-eqb (turn_element z) p h))

  -- whose partner was not left
  waits-partner : partner_of T (turn_element z) ≡ p → partner_of T (turn_element z) ≡ 0
  unfolding waits_for beside_in
  waits-partner h = go (eqb (partner_of T u) 0) refl
    where
      u : ℕ
      u = turn_element z

      go : (b : Bool) → eqb (partner_of T u) 0 ≡ b → partner_of T u ≡ 0
      go true q = eqb-true (partner_of T u) 0 q
      go false q =
          let some : partner_of T u ≡ 0 → ⊥ = eqb-false (partner_of T u) 0 q in
          let back : partner_of T p ≡ u = ap (partner_of T) (sym h) ∙ plan.back u some in
          let paired : partner_of T p ≡ 0 → ⊥ = λ r. some (ap (partner_of T) (sym back ∙ r) ∙ plan.alone) in
          let beside : cond (eqb (partner_of T p) 0) p (partner_of T p) ≡ u =
          ap (λ (b : Bool). cond b p (partner_of T p)) (ne_eqb (partner_of T p) 0 paired) ∙ back in
          absurd (false≢true (
          sym no
          ∙ ap (λ (b : Bool). b && (eqb u p || eqb u (cond (eqb (partner_of T p) 0) p (partner_of T p)))) (lt-ltb p 65 (omega (arith, plan.partners u)))
          ∙ ap (λ (b : Bool). eqb u p || b) (eq-eqb u (cond (eqb (partner_of T p) 0) p (partner_of T p)) (sym beside))
          ∙ or-true (eqb u p)))

-- ---- a train is let in

-- train k, of turn q, has entered one more element, and its next turn is known
abbrev pub advanced_in : List ℕ → List ℕ → ℕ → ℕ → List ℕ → List ℕ
advanced_in T v q k a = set (set a (8 + k) (moves_in a k + 1)) (turn_rank q) (ask_in T v (q + 1) (turn_rank q))

module _ {T w a : List ℕ} {q : ℕ} (plan : Planned T) (g : Going T w a q) (c : Called T a q) (soon : q < never)
    (yes-in : lets T (turn_minute q) (turn_element q) w ≡ true) where
  abbrev t : ℕ
  t = turn_minute q

  abbrev e : ℕ
  e = turn_element q

  abbrev i : ℕ
  i = turn_rank q

  abbrev k : ℕ
  k = order_in T i

  abbrev v : List ℕ
  v = entered_in T t e k w

  abbrev advanced : List ℕ
  advanced = advanced_in T v q k a

  abbrev counted : List ℕ
  counted = set a (8 + k) (moves_in a k + 1)

  few : k < 8
  few = turn-known plan g c soon

  known : k < trains_in T
  known = plan.known i c.0

  low : get_or w k 0 ≤ 65
  low = g.placed k known

  size : length w ≡ 544
  size = g.left.size

  pub entered-served : v ≡ served_at T q w
  entered-served = sym (turn_serves plan g c soon ∙ ap (λ (z : Bool). cond z v w) yes-in)

  others : (m : ℕ) → m < 24 → (m ≡ k → ⊥) → (m ≡ 8 + k → ⊥) → (m ≡ 16 + k → ⊥) → get_or v m 0 ≡ get_or w m 0
  others = entered-others T t e k w few low size

  pub entered-fits : Fits T v
  entered-fits j l = go (eqb j k) refl
    where
      go : (d : Bool) → eqb j k ≡ d → (get_or v j 0 ≤ 65) × (due_in v j < 8589934592)
      go true h =
          let place : get_or v j 0 ≡ e = ap (λ (m : ℕ). get_or v m 0) (eqb-true j k h) ∙ entered-place T t e k w few low size in
          let due : due_in v j ≡ t + get_or T (1264 + k * 128 + e) 0 = ap (due_in v) (eqb-true j k h) ∙ entered-due T t e k w few low size in
          (omega (arith, turn-own plan g c soon), omega (arith, plan.small (1264 + k * 128 + e), soon))
      go false h =
          let other : j ≡ k → ⊥ = eqb-false j k h in
          let place = others j (omega (arith, plan.few)) other (λ r. omega (arith, plan.few)) (λ r. omega (arith, plan.few)) in
          let due = others (8 + j) (omega (arith, plan.few)) (λ r. omega (arith, few)) (λ r. other (omega arith)) (λ r. omega (arith, plan.few)) in
          (omega (arith, place, g.placed j l), omega (arith, due, g.dues j l))

  pub advanced-size : length advanced ≡ 16
  advanced-size = length-set counted i (ask_in T v (q + 1) i) ∙ length-set a (8 + k) (moves_in a k + 1) ∙ g.left.room

  advanced-own : get_or advanced i 0 ≡ ask_in T v (q + 1) i
  advanced-own = get_or-set_same counted i (ask_in T v (q + 1) i) 0 (omega (arith, length-set a (8 + k) (moves_in a k + 1), g.left.room))

  advanced-other : (j : ℕ) → (j ≡ i → ⊥) → (j ≡ 8 + k → ⊥) → get_or advanced j 0 ≡ get_or a j 0
  advanced-other j d f =
      get_or-set_other counted i j (ask_in T v (q + 1) i) 0 d ∙ get_or-set_other a (8 + k) j (moves_in a k + 1) 0 f

  advanced-moves : moves_in advanced k ≡ moves_in a k + 1
  advanced-moves =
      get_or-set_other counted i (8 + k) (ask_in T v (q + 1) i) 0 (λ h. omega arith)
      ∙ get_or-set_same a (8 + k) (moves_in a k + 1) 0 (omega (arith, few, g.left.room))

  module _ (b : List ℕ) (told : Renewed T v (q + 1) (waits_for T (get_or w k 0)) advanced b) where
    moved : moves_in b k ≡ moves_in a k + 1
    moved = told.2 (8 + k) (omega (arith, plan.few)) ∙ advanced-moves

    moved_other : (j : ℕ) → (j ≡ k → ⊥) → moves_in b j ≡ moves_in a j
    moved_other j d = told.2 (8 + j) (omega (arith, plan.few)) ∙ advanced-other (8 + j) (λ h. omega arith) (λ h. d (omega arith))

    asks-own : Asks T v (q + 1) (get_or b i 0) i
    asks-own = subst (λ (z : ℕ). Asks T v (q + 1) z i) (sym there) (ask-asks T v (q + 1) i (omega arith) (omega (arith, soon)))
      where
        pick : (d : Bool) → cond d (ask_in T v (q + 1) i) (get_or advanced i 0) ≡ ask_in T v (q + 1) i
        pick true = refl
        pick false = advanced-own

        there : get_or b i 0 ≡ ask_in T v (q + 1) i
        there = told.1 i c.0 ∙ pick (waits_for T (get_or w k 0) (get_or advanced i 0))

    asks-others : (j : ℕ) → j < trains_in T → (j ≡ i → ⊥) → Asks T v (q + 1) (get_or b j 0) j
    asks-others j l d = go (waits_for T (get_or w k 0) (get_or a j 0)) refl
      where
        same : get_or advanced j 0 ≡ get_or a j 0
        same = advanced-other j d (λ h. omega (arith, plan.few))

        there : get_or b j 0 ≡ cond (waits_for T (get_or w k 0) (get_or a j 0)) (ask_in T v (q + 1) j) (get_or a j 0)
        there = told.1 j l ∙ ap (λ (z : ℕ). cond (waits_for T (get_or w k 0) z) (ask_in T v (q + 1) j) z) same

        before : Asks T w (q + 1) (get_or a j 0) j
        before = asks-later (g.asks j l) (q + 1) (omega arith) (turn-apart plan g c soon j l d)

        go : (x : Bool) → waits_for T (get_or w k 0) (get_or a j 0) ≡ x → Asks T v (q + 1) (get_or b j 0) j
        go true h =
            subst (λ (z : ℕ). Asks T v (q + 1) z j) (sym (there ∙ ap (λ (x : Bool). cond x (ask_in T v (q + 1) j) (get_or a j 0)) h))
            (ask-asks T v (q + 1) j (omega (arith, plan.few)) (omega (arith, soon)))
        go false h =
            subst (λ (z : ℕ). Asks T v (q + 1) z j) (sym (there ∙ ap (λ (x : Bool). cond x (ask_in T v (q + 1) j) (get_or a j 0)) h))
            (asks-other T t e k w few low size plan.few (omega (arith, plan.known j l, plan.few)) (λ r. d (plan.once j i l c.0 r)) apart before)
          where
            apart : next_in T w (order_in T j) < 65
                → (next_in T w (order_in T j) ≡ get_or w k 0 → ⊥)
                × (partner_of T (next_in T w (order_in T j)) ≡ get_or w k 0 → partner_of T (next_in T w (order_in T j)) ≡ 0)
            apart aim =
                subst (λ (u : ℕ). (u ≡ get_or w k 0 → ⊥) × (partner_of T u ≡ get_or w k 0 → partner_of T u ≡ 0)) ((g.asks j l).aims aim)
                (waits-own plan (get_or w k 0) (get_or a j 0) h (omega (arith, (g.asks j l).aims aim)), waits-partner plan (get_or w k 0) (get_or a j 0) h)

    pub entered-going : Going T v b (q + 1)
    entered-going = record {
      left = record {
        size = entered-size T t e k w few low size;
        room = told.0 ∙ advanced-size;
        trod = λ j l f less off. trod j l f less off (eqb j k) refl;
        away = λ j l m.
            let none = g.left.away j l m in (
              others j (omega arith) (λ h. omega (arith, known)) (λ h. omega arith) (λ h. omega arith) ∙ none.0,
              others (8 + j) (omega arith) (λ h. omega (arith, few)) (λ h. omega (arith, known)) (λ h. omega arith) ∙ none.1,
              others (16 + j) (omega arith) (λ h. omega (arith, few)) (λ h. omega (arith, few)) (λ h. omega (arith, known)) ∙ none.2,
              moved_other j (λ h. omega (arith, known)) ∙ none.3,
            );
      };
      places = λ j l. places j l (eqb j k) refl;
      placed = λ j l. (entered-fits j l).0;
      dues = λ j l. (entered-fits j l).1;
      moves = λ j l. moves j l (eqb j k) refl;
      asks = λ j l. asks j l (eqb j i) refl;
    }
      where
        trod : (j : ℕ) → j < 8 → (f : ℕ) → f < 65 → ((m : ℕ) → 1 ≤ m → m < moves_in b j → way_in T j m ≡ f → ⊥) → (d : Bool) → eqb j k ≡ d
            → get_or v (24 + f * 8 + j) 0 ≡ 0
        trod j l f less off true h =
            let same : j ≡ k = eqb-true j k h in
            let steps : moves_in b j ≡ moves_in a j + 1 = ap (moves_in b) same ∙ moved ∙ ap (λ (m : ℕ). moves_in a m + 1) (sym same) in
            let here : get_or w k 0 ≡ way_in T j (moves_in a j) = g.places k known ∙ ap (λ (m : ℕ). way_in T m (moves_in a m)) (sym same) in
            let elsewhere : f ≡ get_or w k 0 → ⊥ = λ r. not-here j f less off (moves_in a j) (omega arith) (r ∙ here) in
            entered-blocks T t e k w few low size f j l (λ r. elsewhere r.0) ∙ g.left.trod j l f less (λ m p n r. off m p (omega arith) r)
          where
            not-here : (j f : ℕ) → f < 65 → ((m : ℕ) → 1 ≤ m → m < moves_in b j → way_in T j m ≡ f → ⊥) → (m : ℕ) → m < moves_in b j → f ≡ way_in T j m → ⊥
            not-here j f less off zero p r = omega arith
            not-here j f less off (suc m) p r = off (suc m) (omega arith) p (sym r)
        trod j l f less off false h =
            let other : j ≡ k → ⊥ = eqb-false j k h in
            entered-blocks T t e k w few low size f j l (λ r. other r.1)
            ∙ g.left.trod j l f less (λ m p n r. off m p (omega (arith, moved_other j other)) r)

        places : (j : ℕ) → j < trains_in T → (d : Bool) → eqb j k ≡ d → get_or v j 0 ≡ way_in T j (moves_in b j)
        places j l true h =
            let same : j ≡ k = eqb-true j k h in
            let next : moves_in a k + 1 ≡ suc (moves_in a k) = omega arith in
            subst (λ (m : ℕ). get_or v m 0 ≡ way_in T m (moves_in b m)) (sym same)
            (entered-place T t e k w few low size
            ∙ turn_aimed plan g c soon
            ∙ ap (λ (p : ℕ). get_or T (240 + k * 128 + p) 0) (g.places k known)
            ∙ ap (way_in T k) (sym (moved ∙ next)))
        places j l false h =
            let other : j ≡ k → ⊥ = eqb-false j k h in
            others j (omega (arith, plan.few)) other (λ r. omega (arith, plan.few)) (λ r. omega (arith, plan.few))
            ∙ g.places j l
            ∙ ap (way_in T j) (sym (moved_other j other))

        moves : (j : ℕ) → j < trains_in T → (d : Bool) → eqb j k ≡ d → moves_in b j ≤ q + 1
        moves j l true h = omega (arith, ap (moves_in b) (eqb-true j k h), moved, g.moves k known)
        moves j l false h = omega (arith, moved_other j (eqb-false j k h), g.moves j l)

        asks : (j : ℕ) → j < trains_in T → (d : Bool) → eqb j i ≡ d → Asks T v (q + 1) (get_or b j 0) j
        asks j l true h = subst (λ (m : ℕ). Asks T v (q + 1) (get_or b m 0) m) (sym (eqb-true j i h)) asks-own
        asks j l false h = asks-others j l (eqb-false j i h)

  -- the same of the words as they are read and written one after another
  module _ (j p : ℕ) (u b : List ℕ) (order : j ≡ k) (place : p ≡ get_or w j 0) (now-run : u ≡ entered_in T t e j w)
      (now-asks : b ≡ advanced_in T u q j a) where
    read-run : u ≡ v
    read-run = now-run ∙ ap (λ (m : ℕ). entered_in T t e m w) order

    read-asks : b ≡ advanced
    read-asks = now-asks ∙ ap (λ (l : List ℕ). advanced_in T l q j a) read-run ∙ ap (λ (m : ℕ). advanced_in T v q m a) order

    pub read-size : length b ≡ 16
    read-size = ap (λ (l : List ℕ). length l) read-asks ∙ advanced-size

    pub read-going : (d : List ℕ) → Renewed T u (q + 1) (waits_for T p) b d → Going T u d (q + 1) × (u ≡ served_at T q w)
    read-going d told = (
      subst (λ (l : List ℕ). Going T l d (q + 1)) (sym read-run) (entered-going d here),
      read-run ∙ entered-served,
    )
      where
        here : Renewed T v (q + 1) (waits_for T (get_or w k 0)) advanced d
        here =
            subst (λ (l : List ℕ). Renewed T v (q + 1) (waits_for T (get_or w k 0)) l d) read-asks
            (subst (λ (m : ℕ). Renewed T v (q + 1) (waits_for T m) b d) (place ∙ ap (λ (m : ℕ). get_or w m 0) order)
            (subst (λ (l : List ℕ). Renewed T l (q + 1) (waits_for T p) b d) read-run told))

  pub read_fits : (j : ℕ) (u : List ℕ) → j ≡ k → u ≡ entered_in T t e j w → Fits T u
  read_fits j u order now-run = subst (Fits T) (sym (now-run ∙ ap (λ (m : ℕ). entered_in T t e m w) order)) entered-fits

-- ---- the first turns

module _ (T w a v x : List ℕ) (plan : Planned T) (c : Cleared T w a) (started : v ≡ start_in T x w) where
  pub begins_words : v ≡ start_in T x (replicate {A = ℕ} run_size 0)
  begins_words = started ∙ start_again plan.few c x

  waits-own-words : (k : ℕ) → k < trains_in T → (get_or v k 0 ≡ 65) × (due_in v k ≡ first_due T x k)
  unfolding start_in
  waits-own-words k l =
      let own = begun-own T x (trains_in T) 0 k w c.size (omega arith) (omega arith) (omega (arith, plan.few)) in
      (ap (λ (u : List ℕ). get_or u k 0) started ∙ own.0, ap (λ (u : List ℕ). get_or u (8 + k) 0) started ∙ own.1)

  waits-other-words : (m : ℕ) → ((k : ℕ) → k < trains_in T → (m ≡ k → ⊥) × (m ≡ 8 + k → ⊥)) → get_or v m 0 ≡ get_or w m 0
  unfolding start_in
  waits-other-words m h = ap (λ (u : List ℕ). get_or u m 0) started ∙ begun-other T x (trains_in T) 0 m w (λ k l n. h k (omega arith))

  started_size : length v ≡ run_size
  unfolding start_in
  started_size = ap (λ (u : List ℕ). length u) started ∙ begun-length T x (trains_in T) 0 w ∙ c.size

  pub begins_fits : Fits T v
  begins_fits k l =
      let own = waits-own-words k l in
      (omega (arith, own.0), omega (arith, own.1, plan.small (32 + k), plan.small (48 + k * 8 + get_or x k 0)))

  module _ (b : List ℕ) (asked : Renewed T v 0 (λ z. true) a b) where
    none-moved : (k : ℕ) → k < 8 → moves_in b k ≡ 0
    none-moved k l = asked.2 (8 + k) (omega (arith, plan.few)) ∙ c.moves k l

    pub begins_going : Going T v b 0
    begins_going = record {
      left = record {
        size = started_size;
        room = asked.0 ∙ c.room;
        trod = λ k l e low off. waits-other-words (24 + e * 8 + k) (λ j m. (λ h. omega (arith, plan.few), λ h. omega (arith, plan.few))) ∙ c.blank k l e low;
        away = λ k l m. (
          waits-other-words k (λ j h. (λ r. omega arith, λ r. omega arith)) ∙ (c.away k l m).0,
          waits-other-words (8 + k) (λ j h. (λ r. omega (arith, plan.few), λ r. omega arith)) ∙ (c.away k l m).1,
          waits-other-words (16 + k) (λ j h. (λ r. omega (arith, plan.few), λ r. omega (arith, plan.few))) ∙ c.arrivals k m,
          none-moved k m,
        );
      };
      places = λ k l. (waits-own-words k l).0 ∙ ap (way_in T k) (sym (none-moved k (omega (arith, plan.few))));
      placed = λ k l. (begins_fits k l).0;
      dues = λ k l. (begins_fits k l).1;
      moves = λ k l. omega (arith, none-moved k (omega (arith, plan.few)));
      asks = λ i l. subst (λ (z : ℕ). Asks T v 0 z i) (sym (asked.1 i l)) (ask-asks T v 0 i (omega (arith, plan.few)) (omega arith));
    }
