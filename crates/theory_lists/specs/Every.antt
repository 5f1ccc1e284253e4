-- A property of every item of a list, and whether one passes a test. Each law is shown by induction on the list. Assumes nothing.
use Rattle.std.proofs.Common.{subst, sym, ap, ap₂, ◌∙◌, not-suc-le-zero, le_of_suc-le-suc, eqb-true}
use Rattle.std.specs.Prelude.{◌≡◌, refl, Bool, true, false, ◌&&◌, ◌||◌, List, [], ◌∷◌, ◌++◌, map, ℕ, zero, suc, ◌<◌, length, get_or, eqb}
use Rattle.std.proofs.lemmas.Bool.{false≢true}
use Rattle.std.proofs.Math.Bool.{or_assoc, and-false}
use Rattle.rules.specs.Lists.{one, each, keep, any, has}

-- ---- a property of every item

abbrev pub Every {ℓ} : {A : Type ℓ} → (A → Type 0) → List A → Type 0
Every P [] = Unit
Every P (a ∷ l) = P a × Every P l

pub every_append {ℓ} : {A : Type ℓ} (P : A → Type 0) (s t : List A) → Every P s → Every P t → Every P (s ++ t)
every_append P [] t h k = k
every_append P (a ∷ s) t h k = (h.0, every_append P s t h.1 k)

pub every_left {ℓ} : {A : Type ℓ} (P : A → Type 0) (s t : List A) → Every P (s ++ t) → Every P s
every_left P [] t h = tt
every_left P (a ∷ s) t h = (h.0, every_left P s t h.1)

pub every_right {ℓ} : {A : Type ℓ} (P : A → Type 0) (s t : List A) → Every P (s ++ t) → Every P t
every_right P [] t h = h
every_right P (a ∷ s) t h = every_right P s t h.1

pub every_map {ℓ κ} : {A : Type ℓ} {B : Type κ} (P : A → Type 0) (Q : B → Type 0) (f : A → B) → ((a : A) → P a → Q (f a)) → (l : List A) → Every P l → Every Q (map f l)
every_map P Q f g [] h = tt
every_map P Q f g (a ∷ l) h = (g a h.0, every_map P Q f g l h.1)

pub every_each {ℓ κ} : {A : Type ℓ} {B : Type κ} (P : A → Type 0) (Q : B → Type 0) (f : A → List B) → ((a : A) → P a → Every Q (f a)) → (l : List A) → Every P l → Every Q (each f l)
every_each P Q f g [] h = tt
every_each P Q f g (a ∷ l) h = every_append Q (f a) (each f l) (g a h.0) (every_each P Q f g l h.1)

pub every_one {ℓ} : {A : Type ℓ} (P : A → Type 0) (c : Bool) (a : A) → (c ≡ true → P a) → Every P (one c a)
every_one P true a h = (h refl, tt)
every_one P false a h = tt

pub every_keep {ℓ} : {A : Type ℓ} (P : A → Type 0) (test : A → Bool) (l : List A) → Every P l → Every P (keep test l)
every_keep P test l h = every_each P P (λ a. one (test a) a) (λ a p. every_one P (test a) a (λ q. p)) l h

pub every_append-one {ℓ} : {A : Type ℓ} (P : A → Type 0) (l : List A) (c : Bool) (a : A) → Every P l → (c ≡ true → P a) → Every P (l ++ one c a)
every_append-one P l c a h k = every_append P l (one c a) h (every_one P c a k)

pub every_all {ℓ} : {A : Type ℓ} (P : A → Type 0) → ((a : A) → P a) → (l : List A) → Every P l
every_all P h [] = tt
every_all P h (a ∷ l) = (h a, every_all P h l)

pub every_more {ℓ} : {A : Type ℓ} (P Q : A → Type 0) → ((a : A) → P a → Q a) → (l : List A) → Every P l → Every Q l
every_more P Q g [] h = tt
every_more P Q g (a ∷ l) h = (g a h.0, every_more P Q g l h.1)

-- of the items of a list made by `map`, and of those that they are made of
pub every_image {ℓ κ} : {A : Type ℓ} {B : Type κ} (P : A → Type 0) (f : B → A) (l : List B) → Every (λ b. P (f b)) l → Every P (map f l)
every_image P f l h = every_map (λ b. P (f b)) P f (λ b p. p) l h

pub every_source {ℓ κ} : {A : Type ℓ} {B : Type κ} (P : A → Type 0) (f : B → A) (l : List B) → Every P (map f l) → Every (λ b. P (f b)) l
every_source P f [] h = tt
every_source P f (b ∷ l) h = (h.0, every_source P f l h.1)

-- of the item at a place
pub every_at {ℓ} : {A : Type ℓ} (P : A → Type 0) (l : List A) (d : A) → Every P l → (k : ℕ) → k < length l → P (get_or l k d)
every_at P [] d h k i = absurd (not-suc-le-zero i)
every_at P (a ∷ l) d h zero i = h.0
every_at P (a ∷ l) d h (suc k) i = every_at P l d h.1 k (le_of_suc-le-suc i)

-- at any place, where it holds too of what stands for an absent item
pub every_anywhere {ℓ} : {A : Type ℓ} (P : A → Type 0) (l : List A) (d : A) → P d → Every P l → (k : ℕ) → P (get_or l k d)
every_anywhere P [] d p h k = p
every_anywhere P (a ∷ l) d p h zero = h.0
every_anywhere P (a ∷ l) d p h (suc k) = every_anywhere P l d p h.1 k

pub each_every {ℓ κ} : {A : Type ℓ} {B : Type κ} (P : A → Type 0) (f g : A → List B) → ((a : A) → P a → f a ≡ g a) → (l : List A) → Every P l → each f l ≡ each g l
each_every P f g e [] h = refl
each_every P f g e (a ∷ l) h = ap₂ ◌++◌ (e a h.0) (each_every P f g e l h.1)

-- ---- whether one passes a test

pub any_append {ℓ} : {A : Type ℓ} (test : A → Bool) (s t : List A) → any test (s ++ t) ≡ (any test s || any test t)
any_append test [] t = refl
any_append test (a ∷ s) t = ap (λ (z : Bool). test a || z) (any_append test s t) ∙ sym (or_assoc (test a) (any test s) (any test t))

-- one of the first list passes, so one of both does
pub any-append-first {ℓ} : {A : Type ℓ} (test : A → Bool) (s t : List A) → any test s ≡ true → any test (s ++ t) ≡ true
any-append-first test s t h = any_append test s t ∙ ap (λ (z : Bool). z || any test t) h

-- one passes, so what follows from one that passes follows
pub any_every {ℓ} : {A : Type ℓ} (test : A → Bool) (P : A → Type 0) (Q : Type 0) → ((a : A) → test a ≡ true → P a → Q) → (l : List A) → Every P l → any test l ≡ true → Q
any_every test P Q f [] h q = absurd (false≢true q)
any_every test P Q f (a ∷ l) h q = go (test a) refl q (any_every test P Q f l h.1)
  where
    go : (b : Bool) → test a ≡ b → (b || any test l) ≡ true → (any test l ≡ true → Q) → Q
    go true e q ih = f a e h.0
    go false e q ih = ih q

-- none passes where each fails, and the other way round
pub any_none {ℓ} : {A : Type ℓ} (test : A → Bool) (l : List A) → Every (λ a. test a ≡ false) l → any test l ≡ false
any_none test [] h = refl
any_none test (a ∷ l) h = ap₂ ◌||◌ h.0 (any_none test l h.1)

pub none_any {ℓ} : {A : Type ℓ} (test : A → Bool) (l : List A) → any test l ≡ false → Every (λ a. test a ≡ false) l
none_any test [] h = tt
none_any test (a ∷ l) h = go (test a) h (none_any test l)
  where
    go : (b : Bool) → (b || any test l) ≡ false → (any test l ≡ false → Every (λ a. test a ≡ false) l) → (b ≡ false) × Every (λ a. test a ≡ false) l
    go true h ih = absurd (false≢true (sym h))
    go false h ih = (refl, ih h)

-- what the failing of a test shows holds of every item where none passes it
pub fails_every {ℓ} : {A : Type ℓ} (P : A → Type 0) (test : A → Bool) → ((a : A) → test a ≡ false → P a) → (l : List A) → any test l ≡ false → Every P l
fails_every P test f l h = every_more (λ a. test a ≡ false) P f l (none_any test l h)

-- ---- whether a number is in a list

-- what every number of a list has, a number of it has
pub has_every : (P : ℕ → Type 0) (l : List ℕ) (n : ℕ) → Every P l → has l n ≡ true → P n
has_every P l n h q = any_every (eqb n) P (P n) (λ i e p. subst P (sym (eqb-true n i e)) p) l h q

-- those of a set that pass a test
pub has-keep : (test : ℕ → Bool) (s : List ℕ) (d : ℕ) → has (keep test s) d ≡ (has s d && test d)
has-keep test [] d = refl
has-keep test (a ∷ s) d = go (eqb d a) refl (test a) refl (has-keep test s d)
  where
    go : (b : Bool) → eqb d a ≡ b → (c : Bool) → test a ≡ c → has (keep test s) d ≡ (has s d && test d)
        → has (one c a ++ keep test s) d ≡ ((b || has s d) && test d)
    go true e true q ih = ap (λ (b : Bool). b || has (keep test s) d) e ∙ sym (ap test (eqb-true d a e) ∙ q)
    go true e false q ih = ih ∙ ap (λ (b : Bool). has s d && b) out ∙ and-false (has s d) ∙ sym out
      where
        out : test d ≡ false
        out = ap test (eqb-true d a e) ∙ q
    go false e true q ih = ap (λ (b : Bool). b || has (keep test s) d) e ∙ ih
    go false e false q ih = ih
