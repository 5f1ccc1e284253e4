-- The laws of every step of a path, and of a list that one element is added to. Each law is by induction on the list. Assumes nothing.
use Rattle.std.specs.Prelude.{◌≡◌, refl, Bool, true, false, List, [], ◌∷◌, ◌++◌, ℕ, ◌+◌, ◌≤◌, ◌<◌, length}
use Rattle.std.proofs.Common.{arith}
use Rattle.rules.specs.Lists.{one, tick}
use Rattle.rules.specs.Files.{Stop, last_of, any_step}
use Rattle.theory_lists.specs.Tests.{or_false-first, or_false-second}
use Rattle.theory_lists.specs.Every.{Every}
use Rattle.theory_sound.specs.Facts.{Steps}

-- ---- one element more

pub length_more : {A : Type 0} (l : List A) (b : Bool) (a : A) → length (l ++ one b a) ≡ length l + tick b
length_more [] true a = refl
length_more [] false a = refl
length_more (x ∷ l) b a = omega (arith, length_more l b a)

pub few-more : {A : Type 0} (n : ℕ) (l : List A) (b : Bool) (a : A) → length l ≤ n → (b ≡ true → length l < n) → length (l ++ one b a) ≤ n
few-more n l b a h k = go b (length_more l b a) k
  where
    go : (t : Bool) → length (l ++ one b a) ≡ length l + tick t → (t ≡ true → length l < n) → length (l ++ one b a) ≤ n
    go true e k = omega (arith, k refl)
    go false e k = omega arith

-- ---- every step of a path

pub steps_map : {R S : Stop → Stop → Type 0} → ((a b : Stop) → R a b → S a b) → (l : List Stop) → Steps R l → Steps S l
steps_map h [] e = tt
steps_map h (a ∷ []) e = tt
steps_map h (a ∷ (b ∷ l)) e = (h a b e.0, steps_map h (b ∷ l) e.1)

pub any_step-none : {R : Stop → Stop → Type 0} → (broken : Stop → Stop → Bool) → ((a b : Stop) → broken a b ≡ false → R a b)
    → (l : List Stop) → any_step broken l ≡ false → Steps R l
any_step-none broken f [] h = tt
any_step-none broken f (a ∷ []) h = tt
any_step-none broken f (a ∷ (b ∷ l)) h =
    (f a b (or_false-first (broken a b) (any_step broken (b ∷ l)) h), any_step-none broken f (b ∷ l) (or_false-second (broken a b) (any_step broken (b ∷ l)) h))

-- the last stop has what every stop has
pub every_last : (P : Stop → Type 0) (l : List Stop) → 1 ≤ length l → Every P l → P (last_of l)
every_last P [] n h = absurd (omega arith)
every_last P (a ∷ []) n h = h.0
every_last P (a ∷ (b ∷ l)) n h = every_last P (b ∷ l) (omega arith) h.1
