-- 32,768 bytes always suffice for the listing of an answered run.
-- A minute line needs an arrival of its own, an answered run has logged at most 1,024, and no line has more than 27 bytes. Assumes nothing.
use Rattle.std.specs.Prelude.{◌≡◌, refl, Bool, true, false, ◌&&◌, cond, List, [], ◌∷◌, ◌++◌, ltb, eqb}
use Rattle.std.proofs.Common.{sym, ap, ◌∙◌, ltb-false, ne_eqb}
use Prim.Native.Nat.{ℕ, zero, suc, ◌+◌, ◌*◌, ◌/◌, ◌%◌, ◌^◌, ◌≤◌, ◌<◌}
use Rattle.std.proofs.Math.Nat.{pow-succ'}
use native.Mathlib.Omega.{arith}
use Rattle.std.proofs.Math.ListN.{length, length-append}
use Rattle.rules.specs.Lists.{each, keep, tick, sum, count, below}
use Rattle.rules.specs.Files.{Case}
use Rattle.rules.specs.Turns.{Arrival}
use Rattle.rules.specs.Joint.{Entry, total, weight, weight_at, joint}
use Rattle.rules.specs.Listing.{digits, decimal, line, total_word, window, not_arrived_of, minute_line, train_lines, listing}
use Rattle.theory_sound.specs.Facts.{Sound}
use Rattle.theory_lists.specs.Below.{length-span, every_below, sum-below-le}
use Rattle.theory_lists.specs.Every.{Every}
use Rattle.theory_lists.specs.Sums.{tick-le, length-keep, sum_less, sum_same, sum_plus, sum-times}
use Rattle.out_listing.specs.Arrivals.{arrived-few}

-- ---- sums and lengths

-- what is at most for every item, is at most in sum
sum-within : {A : Type 0} (P : A → Type 0) (f g : A → ℕ) → ((a : A) → P a → f a ≤ g a) → (l : List A) → Every P l → sum f l ≤ sum g l
sum-within P f g e [] h = omega arith
sum-within P f g e (a ∷ l) h = omega (arith, e a h.0, sum-within P f g e l h.1)

sum-last_lines : {A : Type 0} (l : List A) → sum (λ a. 25) l ≡ 25 * length l
sum-last_lines [] = omega arith
sum-last_lines (a ∷ l) = omega (arith, sum-last_lines l)

pub length-each : {A B : Type 0} (f : A → List B) (l : List A) → length (each f l) ≡ sum (λ a. length (f a)) l
length-each f [] = refl
length-each f (a ∷ l) = omega (arith, length-append (f a) (each f l), length-each f l)

-- ---- digits

-- as many digits as allowed, at most
digits-most : (n v : ℕ) → length (digits n v) ≤ n
digits-most zero v = omega arith
digits-most (suc n) v = go (ltb v 10) (digits-most n (v / 10))
  where
    go : (b : Bool) → length (digits n (v / 10)) ≤ n → length (cond b [] (digits n (v / 10)) ++ ((48 + v % 10) ∷ [])) ≤ suc n
    go true h = omega arith
    go false h = omega (arith, length-append (digits n (v / 10)) ((48 + v % 10) ∷ []))

-- a number below 10 to the m, m at least 1, has at most m digits
digits-few : (n m v : ℕ) → v < 10 ^ suc m → length (digits n v) ≤ suc m
digits-few zero m v h = omega arith
digits-few (suc n) m v h = go (ltb v 10) refl m h (digits-few n)
  where
    go : (b : Bool) → ltb v 10 ≡ b → (m : ℕ) → v < 10 ^ suc m → ((m v : ℕ) → v < 10 ^ suc m → length (digits n v) ≤ suc m)
        → length (cond b [] (digits n (v / 10)) ++ ((48 + v % 10) ∷ [])) ≤ suc m
    go true q m h ih = omega arith
    go false q zero h ih = absurd (omega (arith, ltb-false v 10 q, pow-succ' 10 0))
    go false q (suc m) h ih =
        let less : v / 10 < 10 ^ suc m = omega (arith, pow-succ' 10 (suc m)) in
        omega (arith, ih m (v / 10) less, length-append (digits n (v / 10)) ((48 + v % 10) ∷ []))

pub decimal-most : (v : ℕ) → length (decimal v) ≤ 20
unfolding decimal
decimal-most v = digits-most 20 v

pub decimal-few : (m v : ℕ) → v < 10 ^ suc m → length (decimal v) ≤ suc m
unfolding decimal
decimal-few m v h = digits-few 20 m v h

-- ---- lines

length-line-two : (a b : List ℕ) → length (line (a ∷ b ∷ [])) ≡ length a + length b + 2
length-line-two a b = omega (arith, length-append a (32 ∷ (b ++ (10 ∷ []))), length-append b (10 ∷ []))

length-line_three : (a b c : List ℕ) → length (line (a ∷ b ∷ c ∷ [])) ≡ length a + length b + length c + 3
length-line_three a b c =
    omega (arith, length-append a (32 ∷ (b ++ (32 ∷ (c ++ (10 ∷ []))))), length-append b (32 ∷ (c ++ (10 ∷ []))), length-append c (10 ∷ []))

-- the line of a minute whose weight n arrivals make up
minute-length : (k t w n : ℕ) → k < 10 → t < 1000 → (n ≡ 0 → w ≡ 0) → length (minute_line k t w) ≤ 27 * n
minute-length k t zero n h l z = omega arith
minute-length k t (suc w) zero h l z = absurd (omega (arith, z refl))
minute-length k t (suc w) (suc n) h l z =
    omega (arith, length-line_three (decimal k) (decimal t) (decimal (suc w)), decimal-few 0 k h, decimal-few 2 t l, decimal-most (suc w))

-- ---- arrivals and minutes

-- the arrival is one of train k in minute t
abbrev is_of : ℕ → ℕ → Arrival Entry → Bool
is_of k t r = eqb r.who.mark.train k && eqb r.minute t

-- a minute without arrivals has no weight
weight_at-none : (C : Case) (v : List (Arrival Entry)) (k t : ℕ) → count (is_of k t) v ≡ 0 → weight_at C v k t ≡ 0
unfolding weight_at
weight_at-none C v k t h = go (keep (is_of k t) v) (length-keep (is_of k t) v ∙ h)
  where
    go : (l : List (Arrival Entry)) → length l ≡ 0 → sum (λ r. weight C r.who.cover) l ≡ 0
    go [] z = refl
    go (r ∷ l) z = absurd (omega arith)

-- an arrival counts for one train and one minute at most
counted-once : (n m : ℕ) (r : Arrival Entry) → sum (λ k. sum (λ t. tick (is_of k t r)) (below m)) (below n) ≤ 1
counted-once n m r =
    omega (
      arith,
      sum_less (λ k. sum (λ t. tick (is_of k t r)) (below m)) (λ k. tick (eqb r.who.mark.train k)) (λ k. minutes (eqb r.who.mark.train k)) (below n),
      sum-below-le (λ k. tick (eqb r.who.mark.train k)) r.who.mark.train (λ k q. ap tick (ne_eqb r.who.mark.train k (λ e. q (sym e)))) n,
      tick-le (eqb r.who.mark.train r.who.mark.train),
    )
  where
    minutes : (b : Bool) → sum (λ t. tick (b && eqb r.minute t)) (below m) ≤ tick b
    minutes true =
        omega (
          arith,
          sum-below-le (λ t. tick (eqb r.minute t)) r.minute (λ t q. ap tick (ne_eqb r.minute t (λ e. q (sym e)))) m,
          tick-le (eqb r.minute r.minute),
        )
    minutes false = omega (arith, sum-below-le (λ t. 0) 0 (λ t q. refl) m)

-- so the arrivals of all trains in all minutes are no more than there are
counted-all : (n m : ℕ) (v : List (Arrival Entry)) → sum (λ k. sum (λ t. count (is_of k t) v) (below m)) (below n) ≤ length v
counted-all n m [] = omega (arith, sum-below-le (λ k. sum (λ t. 0) (below m)) 0 (λ k q. none) n, none)
  where
    none : sum (λ t. 0) (below m) ≡ 0
    none = omega (arith, sum-below-le (λ t. 0) 0 (λ t q. refl) m)
counted-all n m (r ∷ v) =
    omega (
      arith,
      sum_same (λ k. sum (λ t. count (is_of k t) (r ∷ v)) (below m))
          (λ k. sum (λ t. tick (is_of k t r)) (below m) + sum (λ t. count (is_of k t) v) (below m)) (λ k. sum_plus (λ t. tick (is_of k t r)) (λ t. count (is_of k t) v) (below m)) (below n),
      sum_plus (λ k. sum (λ t. tick (is_of k t r)) (below m)) (λ k. sum (λ t. count (is_of k t) v) (below m)) (below n),
      counted-once n m r,
      counted-all n m v,
    )

-- ---- the listing

module _ (C : Case) (sound : Sound C) (v : List (Arrival Entry)) where
  -- the lines of a train
  train-length : (k : ℕ) → k < length C.trains → length (train_lines C v k) ≤ 27 * sum (λ t. count (is_of k t) v) (window C) + 25
  unfolding train_lines
  train-length k h =
      omega (
        arith,
        length-append (each (λ t. minute_line k t (weight_at C v k t)) (window C)) (line (decimal k ∷ (45 ∷ []) ∷ decimal (not_arrived_of C v k) ∷ [])),
        length-each (λ t. minute_line k t (weight_at C v k t)) (window C),
        sum-within (λ t. t < suc C.head.last_minute) (λ t. length (minute_line k t (weight_at C v k t))) (λ t. 27 * count (is_of k t) v)
            (λ t l. minute-length k t (weight_at C v k t) (count (is_of k t) v) (omega (arith, sound.few_trains)) (omega (arith, sound.in_window)) (weight_at-none C v k t))
            (window C) (every_below (suc C.head.last_minute)),
        sum-times 27 (λ t. count (is_of k t) v) (window C),
        length-line_three (decimal k) (45 ∷ []) (decimal (not_arrived_of C v k)),
        decimal-few 0 k (omega (arith, sound.few_trains)),
        decimal-most (not_arrived_of C v k),
      )

  -- 27 bytes for the first line and for each arrival, 25 for each train's last line
  pub listing-length : length (listing C v) ≤ 27 + 27 * length v + 25 * length C.trains
  unfolding listing
  listing-length =
      omega (
        arith,
        length-append (line (total_word ∷ decimal (total C) ∷ [])) (each (train_lines C v) (below (length C.trains))),
        length-line-two total_word (decimal (total C)),
        decimal-most (total C),
        length-each (train_lines C v) (below (length C.trains)),
        sum-within (λ k. k < length C.trains) (λ k. length (train_lines C v k)) (λ k. 27 * sum (λ t. count (is_of k t) v) (window C) + 25) train-length
            (below (length C.trains)) (every_below (length C.trains)),
        sum_plus (λ k. 27 * sum (λ t. count (is_of k t) v) (window C)) (λ k. 25) (below (length C.trains)),
        sum-times 27 (λ k. sum (λ t. count (is_of k t) v) (window C)) (below (length C.trains)),
        counted-all (length C.trains) (suc C.head.last_minute) v,
        sum-last_lines (below (length C.trains)),
        length-span (length C.trains) 0,
      )

-- the listing of an answered run fits the text that is lent for it
pub listing-suffices : (C : Case) → Sound C → (joint C C.head.last_minute).met ≡ 0
    → length (listing C (joint C C.head.last_minute).arrived) ≤ 32768
listing-suffices C sound answered =
    omega (
      arith,
      listing-length C sound (joint C C.head.last_minute).arrived,
      arrived-few C sound C.head.last_minute answered,
      sound.few_trains,
    )
