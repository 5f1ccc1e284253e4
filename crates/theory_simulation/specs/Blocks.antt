-- One block among the marks: it stays when a mark enters and at the start of each minute before its end, goes at the start of the minute that is its end, and
-- is alone on its element where at most one mark is. Each is a sum over the marks. Assumes nothing.
use Rattle.std.specs.Prelude.{◌≡◌, refl, Bool, true, false, not, ◌&&◌, List, [], ◌∷◌, ◌++◌, ℕ, ◌+◌, ◌*◌, ◌≤◌, ◌<◌, leb, ltb, eqb}
use Rattle.std.proofs.Common.{sym, ap, ap₂, ◌∙◌, le_refl, arith, eqb-true, le-leb, eq-eqb}
use Rattle.std.proofs.lemmas.Bool.{false≢true, lt-leb}
use Rattle.rules.specs.Lists.{one, keep, tick, count}
use Rattle.rules.specs.Files.{Case}
use Rattle.rules.specs.Turns.{Place, same, Mark, block, ended, asks, leaves_block, entered}
use Rattle.rules.specs.Turns.Place.{outside}
use Rattle.rules.specs.Demands.{is_at}
use Rattle.theory_sound.specs.Ways.{same_true, same_self}
use Rattle.theory_lists.specs.Tests.{and_true-first, and_true-second}
use Rattle.theory_lists.specs.Sums.{tick-times, sum_same, sum_less, sum_plus, sum-keep, count_none}
use Rattle.theory_lists.specs.Kept.{keep-none}
use Rattle.theory_simulation.specs.Places.{asked}
use Rattle.theory_simulation.specs.Orderly.{is_on}
use Rattle.theory_simulation.specs.Steps.{sum_around, sum-entered}

-- ---- the rule

-- a block has ended in each minute from its end on
ended-block : (k : ℕ) (p : Place) (n u : ℕ) → ended u (block k p n) ≡ leb n u
unfolding ended
ended-block k p n u = refl

-- who leaves an element leaves a block, unless the safety time is 0
pub leaves_when : (C : Case) (p : Place) → leaves_block C p ≡ (ltb 0 C.head.safety && not (same p outside))
leaves_when C p = refl

-- ---- one block

-- the mark is the block of train k on e until minute n
abbrev pub is_block : ℕ → Place → ℕ → Mark → Bool
is_block k e n m = m.blocks && (eqb m.minute n && is_at k e m)

module _ (k : ℕ) (e : Place) (n : ℕ) where
  -- there is one such mark
  is_block_lem : (m : Mark) → is_block k e n m ≡ true → m ≡ block k e n
  is_block_lem m h = λ i. record { train = train_is i; place = place_is i; blocks = blocks_is i; minute = minute-is i }
    where
      at : (eqb m.minute n && is_at k e m) ≡ true
      at = and_true-second m.blocks (eqb m.minute n && is_at k e m) h

      who : is_at k e m ≡ true
      who = and_true-second (eqb m.minute n) (is_at k e m) at

      blocks_is : m.blocks ≡ true
      blocks_is = and_true-first m.blocks (eqb m.minute n && is_at k e m) h

      minute-is : m.minute ≡ n
      minute-is = eqb-true m.minute n (and_true-first (eqb m.minute n) (is_at k e m) at)

      train_is : m.train ≡ k
      train_is = eqb-true m.train k (and_true-first (eqb m.train k) (same m.place e) who)

      place_is : m.place ≡ e
      place_is = same_true m.place e (and_true-second (eqb m.train k) (same m.place e) who)

  pub block-is : is_block k e n (block k e n) ≡ true
  block-is = ap₂ (λ (a b : Bool). a && (b && same e e)) (eq-eqb n n refl) (eq-eqb k k refl) ∙ same_self e

  -- it is on e
  block_on : (m : Mark) → tick (is_block k e n m) ≤ tick (is_on e m)
  block_on m = go m.blocks (eqb m.minute n) (eqb m.train k) (same m.place e)
    where
      go : (a b c d : Bool) → tick (a && (b && (c && d))) ≤ tick d
      go true true true d = omega arith
      go true true false d = omega arith
      go true false c d = omega arith
      go false b c d = omega arith

  pub blocks-on : (l : List Mark) → count (is_block k e n) l ≤ count (is_on e) l
  blocks-on l = sum_less (λ m. tick (is_block k e n m)) (λ m. tick (is_on e m)) block_on l

  -- an asker is not the block
  pub asker_other : (C : Case) (t : ℕ) (p : Place) (m : Mark) → asks C t p m ≡ true → tick (is_block k e n m) ≡ 0
  asker_other C t p m ask = ap (λ (z : Bool). tick (z && (eqb m.minute n && is_at k e m))) (asked C t p m ask).stood

  -- the block stays when a mark enters
  pub block-stays : (C : Case) (t : ℕ) (p : Place) (b : List Mark) (m : Mark) (c : List Mark) → asks C t p m ≡ true
      → 1 ≤ count (is_block k e n) (b ++ (m ∷ c)) → 1 ≤ count (is_block k e n) (b ++ [] ++ c ++ entered C t p m)
  block-stays C t p b m c ask h =
      omega (
        arith,
        sum_around (λ a. tick (is_block k e n a)) b m c,
        sum-entered (λ a. tick (is_block k e n a)) b c (entered C t p m),
        asker_other C t p m ask,
      )

  -- it stays at the start of each minute before its end
  pub block-goes-not : (u : ℕ) → u < n → (l : List Mark) → count (is_block k e n) (keep (λ m. not (ended u m)) l) ≡ count (is_block k e n) l
  block-goes-not u h l =
      sum-keep (λ m. tick (is_block k e n m)) (λ m. not (ended u m)) l
      ∙ sum_same (λ m. tick (not (ended u m)) * tick (is_block k e n m)) (λ m. tick (is_block k e n m)) (λ m. go m (is_block k e n m) refl) l
    where
      go : (m : Mark) (z : Bool) → is_block k e n m ≡ z → tick (not (ended u m)) * tick z ≡ tick z
      go m true q =
          let stays : ended u m ≡ false = ap (ended u) (is_block_lem m q) ∙ ended-block k e n u ∙ lt-leb n u h in
          ap (λ (z : Bool). tick (not z) * 1) stays
      go m false q = omega arith

  -- and goes at the start of the minute that is its end
  pub block_goes : (l : List Mark) → count (is_on e) (keep (λ m. not (ended n m)) l) + count (is_block k e n) l ≤ count (is_on e) l
  block_goes l =
      omega (
        arith,
        sum-keep (λ m. tick (is_on e m)) (λ m. not (ended n m)) l,
        sum_plus (λ m. tick (not (ended n m)) * tick (is_on e m)) (λ m. tick (is_block k e n m)) l,
        sum_less (λ m. tick (not (ended n m)) * tick (is_on e m) + tick (is_block k e n m)) (λ m. tick (is_on e m)) (λ m. go m (is_block k e n m) refl) l,
      )
    where
      go : (m : Mark) (z : Bool) → is_block k e n m ≡ z → tick (not (ended n m)) * tick (is_on e m) + tick z ≤ tick (is_on e m)
      go m true q =
          let over : ended n m ≡ true = ap (ended n) (is_block_lem m q) ∙ ended-block k e n n ∙ le-leb n n (le_refl n) in
          let on : is_on e m ≡ true = ap (is_on e) (is_block_lem m q) ∙ same_self e in
          omega (arith, ap₂ (λ (a b : Bool). tick (not a) * tick b) over on, ap tick on)
      go m false q = omega (arith, tick-times (not (ended n m)) (tick (is_on e m)))

  -- where at most one mark is on e, the block is alone there
  pub block-alone : (l : List Mark) → count (is_on e) l ≤ 1 → 1 ≤ count (is_block k e n) l → keep (is_on e) l ≡ block k e n ∷ []
  block-alone [] few h = absurd (omega arith)
  block-alone (m ∷ l) few h = go (is_block k e n m) (is_on e m) refl refl few h (block-alone l)
    where
      go : (y z : Bool) → is_block k e n m ≡ y → is_on e m ≡ z → tick z + count (is_on e) l ≤ 1 → 1 ≤ tick y + count (is_block k e n) l
          → (count (is_on e) l ≤ 1 → 1 ≤ count (is_block k e n) l → keep (is_on e) l ≡ block k e n ∷ []) → one z m ++ keep (is_on e) l ≡ block k e n ∷ []
      go true true p q few h ih =
          ap₂ (λ (a : Mark) (r : List Mark). a ∷ r) (is_block_lem m p) (keep-none (is_on e) l (count_none (is_on e) l (omega arith)))
      go true false p q few h ih = absurd (false≢true (sym q ∙ ap (is_on e) (is_block_lem m p) ∙ same_self e))
      go false true p q few h ih = absurd (omega (arith, blocks-on l))
      go false false p q few h ih = ih (omega arith) (omega arith)
