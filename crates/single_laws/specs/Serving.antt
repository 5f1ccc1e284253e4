-- A train served in the words is its pass: where it goes, its standing mark and its block in the words are what it enters as; where not, nothing changes.
-- It has no block yet on what it leaves, since no train is twice on a place. Assumes nothing.
use Rattle.std.specs.Prelude.{◌≡◌, Bool, ◌&&◌, ℕ, zero, suc, ◌+◌, ◌*◌, ◌≤◌, ◌<◌, length, ltb}
use Rattle.std.proofs.Math.Path.{refl, ap, ap₂, subst}
use Rattle.std.proofs.Common.{sym, ◌∙◌, zero-mul, one-mul, mul-one}
use Rattle.std.proofs.Math.Bool.{true, false, not, cond, and-false, and-true}
use mathlib.Core.List.{List}
use Rattle.std.proofs.Math.Option.{Option, none, some}
use native.Mathlib.Omega.{arith}
use Rattle.std.proofs.Math.ListN.{get_or}
use Rattle.std.proofs.Math.Dec.{eqb}
use borrow.Author.Tests.{ltb-true, ltb-false, eqb-true, eqb-false, lt-ltb, le-ltb, eq-eqb, ne_eqb}
use Rattle.rules.specs.Lists.{one, tick, sum, count, below}
use Rattle.rules.specs.Files.{Case}
use Rattle.rules.specs.Turns.{Place, same, Mark, stands, block, last_station, asks, due_again, leaving, entered, State}
use Rattle.rules.specs.Turns.Place.{outside}
use Rattle.rules.specs.Single.{minute_of}
use Rattle.rules.specs.Demands.{is_at}
use Rattle.theory_sound.specs.Facts.{Sound}
use Rattle.theory_sound.specs.Ways.{same_self}
use Rattle.theory_simulation.specs.Orderly.{at_once}
use Rattle.theory_codes.specs.Codes.{place_of}
use Rattle.theory_codes.specs.Tables.{stay_on, tables}
use Rattle.theory_passes.specs.Passes.{admits, pass_train}
use Rattle.theory_passes.specs.Single.{InOrder}
use Rattle.moving.specs.Words.{lets, entered_in, served_in}
use Rattle.theory_codes.specs.Places.{same_codes}
use Rattle.theory_codes.specs.Lookups.{table-safety}
use Rattle.single_laws.specs.Looks.{look_stay}
use Rattle.single_laws.specs.Sums.{sum_below_lem, sum_change, sum_term, or_else, or_else-none}
use Rattle.single_laws.specs.Shows.{stands_in, block_in, end_in, block_term, stands_sum, blocks_sum, minute_in, Shows}
use Rattle.single_laws.specs.Passing.{going, pass-sums, pass-arrived}
use Rattle.single_laws.specs.Asking.{few, goal_last, wanted-asks}
use Rattle.single_laws.specs.Letting.{lets-admits}
use Rattle.single_laws.specs.Entering.{entered-size, entered-place, entered-due, entered-others, entered-arrival, entered-blocks, entered-block, entered-outside}

-- ---- numbers

-- nothing goes: the sum stays
stays-sum : (x s b o y : ℕ) → x + o ≡ s + b + (1 * o + 0 * y) → x ≡ s + b
stays-sum x s b o y h = omega (arith, zero-mul y)

-- one term goes, a new one comes for it, and what it leaves is added
goes-sum : (x s b s' b' o new lv : ℕ) → x + o ≡ s + b + (0 * o + 1 * (new + lv)) → s' + o ≡ s + new → b' ≡ b + lv → x ≡ s' + b'
goes-sum x s b s' b' o new lv h i j = omega (arith, zero-mul o, one-mul (new + lv))

-- a part of a part that was nothing
changed_sum : (b' b i i' x : ℕ) → b' + i ≡ b + i' → i' + 0 ≡ i + x → b' ≡ b + x
changed_sum b' b i i' x g h = omega arith

module _ (C : Case) (sound : Sound C) (t e k : ℕ) (low : k < length C.trains) (element : e ≤ 64) (w : List ℕ) (s : State Mark) (h : Shows C t w s) where
  abbrev n : ℕ
  n = length C.trains

  abbrev p : Place
  p = place_of e

  abbrev old : Mark
  old = stands_in w k

  abbrev goes_now : Bool
  goes_now = going C t p k low w s h

  -- ---- it stays

  stays_shows : goes_now ≡ false → Shows C t w (pass_train C t p k s)
  stays_shows q = record {
    size = h.size;
    placed = h.placed;
    sums = λ f.
        stays-sum (sum f (pass_train C t p k s).list) (stands_sum n w f) (blocks_sum n t w f) (f old) (sum f (entered C t p old))
        (pass-sums C t p k low w s h f
        ∙ ap (λ (b : Bool). stands_sum n w f + blocks_sum n t w f + (tick (not b) * f old + tick b * sum f (entered C t p old))) q);
    arrivals = λ j l.
        pass-arrived C t p k low w s h j
        ∙ ap (λ (b : Bool). or_else (minute_of j s.arrived) (cond (eqb k j && (b && same p (last_station C k))) (some t) none)) q
        ∙ ap (λ (b : Bool). or_else (minute_of j s.arrived) (cond b (some t) none)) (and-false (eqb k j))
        ∙ or_else-none (minute_of j s.arrived)
        ∙ h.arrivals j l;
  }

  -- ---- it goes

  abbrev w' : List ℕ
  w' = entered_in (tables C) t e k w

  abbrev here : ℕ
  here = get_or w k 0

  enter-stands : stands_in w' k ≡ stands k p (due_again C t k p)
  unfolding due_again stay_on
  enter-stands =
      ap₂ (λ (a d : ℕ). stands k (place_of a) d) (entered-place (tables C) t e k w (few C sound low) (h.placed k low) h.size)
      (entered-due (tables C) t e k w (few C sound low) (h.placed k low) h.size ∙ ap (λ (d : ℕ). t + d) (look_stay C k (few C sound low) e (omega arith)))

  enter-others : (j : ℕ) → j < n → (j ≡ k → ⊥) → stands_in w' j ≡ stands_in w j
  enter-others j l d =
      let small : j < 8 = few C sound l in
      let mine : k < 8 = few C sound low in
      ap₂ (λ (a d : ℕ). stands j (place_of a) d)
      (entered-others (tables C) t e k w mine (h.placed k low) h.size j (omega arith) d (λ q. omega arith) (λ q. omega arith))
      (entered-others (tables C) t e k w mine (h.placed k low) h.size (8 + j) (omega arith) (λ q. omega arith) (λ q. d (omega arith)) (λ q. omega arith))

  standing : (f : Mark → ℕ) → stands_sum n w' f + f old ≡ stands_sum n w f + f (stands k p (due_again C t k p))
  standing f =
      sum_change (λ j. f (stands_in w' j)) (λ j. f (stands_in w j)) n k low (λ j l d. ap f (enter-others j l d)) ∙ ap (λ (m : Mark). stands_sum n w f + f m) enter-stands

  -- no train is twice on a place, so it does not block what it stands on
  free : InOrder C s → here < 65 → ltb t (end_in w here k) ≡ false
  free o l = go (ltb t (end_in w here k)) refl
    where
      at : Mark → ℕ
      at m = tick (is_at k (place_of here) m)

      both : (b : Bool) (x y z v : ℕ) → x ≤ 1 → x ≡ y + z → 1 ≤ y → v ≤ z → v ≡ tick b → b ≡ false
      both true x y z v a c d f g = absurd (omega arith)
      both false x y z v a c d f g = refl

      go : (b : Bool) → ltb t (end_in w here k) ≡ b → b ≡ false
      go b q =
          both b (count (is_at k (place_of here)) s.list) (stands_sum n w at) (blocks_sum n t w at) (block_term t w at here k)
          (at_once C s.list s.arrived o k (place_of here))
          (h.sums at)
          (subst (λ (x : ℕ). x ≤ stands_sum n w at) (mine k) (sum_term (λ j. at (stands_in w j)) n k low))
          (inner (sum_term (block_term t w at here) n k low) (sum_term (λ i. sum (block_term t w at i) (below n)) 65 here l))
          (ap₂ (λ (y : Bool) (x : ℕ). tick y * x) q (mine k) ∙ mul-one (tick b))
        where
          mine : (j : ℕ) → tick (eqb k k && same (place_of here) (place_of here)) ≡ 1
          mine j = ap₂ (λ (y z : Bool). tick (y && z)) (eq-eqb k k refl) (same_self (place_of here))

          inner : {x y z : ℕ} → x ≤ y → y ≤ z → x ≤ z
          inner a c = omega arith

  -- ---- what it leaves

  abbrev left : Mark
  left = block k (place_of here) (t + C.head.safety)

  -- a safety time of 0 leaves no block
  abbrev closes : Bool
  closes = ltb 0 C.head.safety

  is-outside : same (place_of here) outside ≡ eqb here 65
  unfolding place_of
  is-outside = same_codes here 65 (h.placed k low) (omega arith)

  -- a block's term, by its end
  abbrev term_of : (Mark → ℕ) → ℕ → ℕ → ℕ → ℕ
  term_of f i j v = tick (ltb t v) * f (block j (place_of i) v)

  leaves_outside : (f : Mark → ℕ) → 65 ≤ here → blocks_sum n t w' f ≡ blocks_sum n t w f + sum f (leaving C t old)
  unfolding leaving
  leaves_outside f l =
      let out : here ≡ 65 = omega (arith, h.placed k low) in
      sum_below_lem (λ i. sum (block_term t w' f i) (below n)) (λ i. sum (block_term t w f i) (below n)) 65
      (λ i m. sum_below_lem (block_term t w' f i) (block_term t w f i) n
      (λ j q. ap (term_of f i j) (entered-outside (tables C) t e k w (few C sound low) (h.placed k low) h.size l i j)))
      ∙ none_more (blocks_sum n t w f)
      ∙ ap (λ (b : Bool). blocks_sum n t w f + sum f (one b left)) (sym (ap (λ (b : Bool). closes && not b) (is-outside ∙ eq-eqb here 65 out) ∙ and-false closes))
    where
      none_more : (x : ℕ) → x ≡ x + 0
      none_more x = omega arith

  leaves_element : (f : Mark → ℕ) → InOrder C s → here < 65 → blocks_sum n t w' f ≡ blocks_sum n t w f + sum f (leaving C t old)
  unfolding leaving
  leaves_element f o l =
      changed_sum (blocks_sum n t w' f) (blocks_sum n t w f) (sum (block_term t w f here) (below n)) (sum (block_term t w' f here) (below n)) (sum f (one closes left))
      (sum_change (λ i. sum (block_term t w' f i) (below n)) (λ i. sum (block_term t w f i) (below n)) 65 here l
      (λ i m d. sum_below_lem (block_term t w' f i) (block_term t w f i) n
      (λ j q. ap (term_of f i j) (entered-blocks (tables C) t e k w mine (h.placed k low) h.size i j (few C sound q) (λ r. d r.0)))))
      (ap (λ (x : ℕ). sum (block_term t w' f here) (below n) + x) (sym gone-before)
      ∙ sum_change (block_term t w' f here) (block_term t w f here) n k low
      (λ j q d. ap (term_of f here j) (entered-blocks (tables C) t e k w mine (h.placed k low) h.size here j (few C sound q) (λ r. d r.1)))
      ∙ ap (λ (x : ℕ). sum (block_term t w f here) (below n) + x) new)
      ∙ ap (λ (b : Bool). blocks_sum n t w f + sum f (one b left)) (sym (ap (λ (b : Bool). closes && not b) (is-outside ∙ ne_eqb here 65 (λ q. omega arith)) ∙ and-true closes))
    where
      mine : k < 8
      mine = few C sound low

      gone-before : block_term t w f here k ≡ 0
      gone-before = ap (λ (b : Bool). tick b * f (block_in w here k)) (free o l) ∙ zero-mul (f (block_in w here k))

      later : ltb t (t + C.head.safety) ≡ closes
      later = go closes refl
        where
          go : (b : Bool) → closes ≡ b → ltb t (t + C.head.safety) ≡ b
          go true q = let m : 0 < C.head.safety = ltb-true 0 C.head.safety q in lt-ltb t (t + C.head.safety) (omega arith)
          go false q = let m : C.head.safety ≤ 0 = ltb-false 0 C.head.safety q in le-ltb t (t + C.head.safety) (omega arith)

      once : (b : Bool) → tick b * f left ≡ sum f (one b left)
      once true = omega (arith, one-mul (f left))
      once false = zero-mul (f left)

      new : block_term t w' f here k ≡ sum f (one closes left)
      new =
          ap (term_of f here k) (entered-block (tables C) t e k w mine (h.placed k low) h.size l ∙ ap (λ (x : ℕ). t + x) (table-safety C))
          ∙ ap (λ (b : Bool). tick b * f left) later
          ∙ once closes

  leaves : (f : Mark → ℕ) → InOrder C s → blocks_sum n t w' f ≡ blocks_sum n t w f + sum f (leaving C t old)
  leaves f o = go (ltb here 65) refl
    where
      go : (b : Bool) → ltb here 65 ≡ b → blocks_sum n t w' f ≡ blocks_sum n t w f + sum f (leaving C t old)
      go true q = leaves_element f o (ltb-true here 65 q)
      go false q = leaves_outside f (ltb-false here 65 q)

  -- ---- it arrives

  goes-arrivals : goes_now ≡ true → (j : ℕ) → j < n → minute_of j (pass_train C t p k s).arrived ≡ minute_in (get_or w' (16 + j) 0)
  goes-arrivals q j l =
      pass-arrived C t p k low w s h j
      ∙ ap (λ (b : Bool). or_else (minute_of j s.arrived) (cond (eqb k j && (b && same p (last_station C k))) (some t) none)) q
      ∙ ap (λ (m : Option ℕ). or_else m (cond (eqb k j && same p (last_station C k)) (some t) none)) (h.arrivals j l)
      ∙ go (eqb k j) refl
    where
      mine : k < 8
      mine = few C sound low

      found : (a : ℕ) (b : Bool) → or_else (minute_in a) (cond b (some t) none) ≡ minute_in (cond b (cond (eqb a 0) (t + 1) a) a)
      found zero true = let v : suc t ≡ t + 1 = omega arith in ap minute_in v
      found zero false = refl
      found (suc a) true = ap (λ (z : Bool). minute_in (cond z (t + 1) (suc a))) (sym (ne_eqb (suc a) 0 (λ r. omega arith)))
      found (suc a) false = refl

      go : (b : Bool) → eqb k j ≡ b → or_else (minute_in (get_or w (16 + j) 0)) (cond (b && same p (last_station C k)) (some t) none) ≡ minute_in (get_or w' (16 + j) 0)
      go true r =
          let own : k ≡ j = eqb-true k j r in
          ap (λ (i : ℕ). or_else (minute_in (get_or w (16 + i) 0)) (cond (same p (last_station C k)) (some t) none)) (sym own)
          ∙ ap (λ (b : Bool). or_else (minute_in (get_or w (16 + k) 0)) (cond b (some t) none)) (sym (goal_last C sound k e low element))
          ∙ found (get_or w (16 + k) 0) (eqb (get_or (tables C) (16 + k) 0) e)
          ∙ ap minute_in (sym (entered-arrival (tables C) t e k w mine (h.placed k low) h.size))
          ∙ ap (λ (i : ℕ). minute_in (get_or w' (16 + i) 0)) own
      go false r =
          let other : k ≡ j → ⊥ = eqb-false k j r in
          let small : j < 8 = few C sound l in
          or_else-none (minute_in (get_or w (16 + j) 0))
          ∙ ap minute_in (sym (entered-others (tables C) t e k w mine (h.placed k low) h.size (16 + j) (omega arith) (λ q. omega arith) (λ q. omega arith) (λ q. other (omega arith))))

  goes_shows : InOrder C s → goes_now ≡ true → Shows C t w' (pass_train C t p k s)
  unfolding entered
  goes_shows o q = record {
    size = entered-size (tables C) t e k w (few C sound low) (h.placed k low) h.size;
    placed = λ j l. placed j l (eqb j k) refl;
    sums = λ f.
        goes-sum (sum f (pass_train C t p k s).list) (stands_sum n w f) (blocks_sum n t w f) (stands_sum n w' f) (blocks_sum n t w' f) (f old)
        (f (stands k p (due_again C t k p))) (sum f (leaving C t old))
        (pass-sums C t p k low w s h f
        ∙ ap (λ (b : Bool). stands_sum n w f + blocks_sum n t w f + (tick (not b) * f old + tick b * sum f (entered C t p old))) q)
        (standing f) (leaves f o);
    arrivals = goes-arrivals q;
  }
    where
      placed : (j : ℕ) → j < n → (b : Bool) → eqb j k ≡ b → get_or w' j 0 ≤ 65
      placed j l true r =
          omega (arith, ap (λ (i : ℕ). get_or w' i 0) (eqb-true j k r), entered-place (tables C) t e k w (few C sound low) (h.placed k low) h.size)
      placed j l false r =
          let small : j < 8 = few C sound l in
          omega (
            arith,
            h.placed j l,
            entered-others (tables C) t e k w (few C sound low) (h.placed k low) h.size j (omega arith) (eqb-false j k r) (λ q. omega arith) (λ q. omega arith),
          )

  -- ---- served

  -- a train served in the words is its pass
  pub served_shows : InOrder C s → Shows C t (served_in (tables C) t e k w) (pass_train C t p k s)
  unfolding served_in
  served_shows o =
      subst (λ (u : List ℕ). Shows C t u (pass_train C t p k s))
      (sym (
      ap (λ (a : Bool). cond a (cond (lets (tables C) t e w) w' w) w) (wanted-asks C sound t w s h k e low element)
      ∙ both (asks C t p old) refl
      ))
      (go goes_now refl)
    where
      -- the words let in who asks as the marks do
      both : (a : Bool) → asks C t p old ≡ a → cond a (cond (lets (tables C) t e w) w' w) w ≡ cond (a && admits C p k s.list) w' w
      both true q = ap (λ (b : Bool). cond b w' w) (lets-admits C sound t w s h e element k low o q)
      both false q = refl

      go : (b : Bool) → goes_now ≡ b → Shows C t (cond goes_now w' w) (pass_train C t p k s)
      go true q = subst (λ (b : Bool). Shows C t (cond b w' w) (pass_train C t p k s)) (sym q) (goes_shows o q)
      go false q = subst (λ (b : Bool). Shows C t (cond b w' w) (pass_train C t p k s)) (sym q) (stays_shows q)
