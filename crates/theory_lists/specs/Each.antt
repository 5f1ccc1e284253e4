-- Laws of `each` and `map`. Each is shown by induction on the list. Assumes nothing.
use Rattle.std.specs.Prelude.{◌≡◌, refl, Bool, true, false, cond, List, [], ◌∷◌, ◌++◌, map}
use Rattle.std.proofs.Common.{sym, ap, ap₂, ◌∙◌, append_assoc, append-nil}
use Rattle.rules.specs.Lists.{one, each}

-- ---- each

pub each_append {ℓ κ} : {A : Type ℓ} {B : Type κ} (f : A → List B) (s t : List A) → each f (s ++ t) ≡ each f s ++ each f t
each_append f [] t = refl
each_append f (a ∷ s) t = ap (λ z. f a ++ z) (each_append f s t) ∙ sym (append_assoc (f a) (each f s) (each f t))

pub each_map {ℓ κ μ} : {A : Type ℓ} {B : Type κ} {D : Type μ} (f : B → List D) (g : A → B) (s : List A) → each f (map g s) ≡ each (λ a. f (g a)) s
each_map f g [] = refl
each_map f g (a ∷ s) = ap (λ z. f (g a) ++ z) (each_map f g s)

pub each-each {ℓ κ μ} : {A : Type ℓ} {B : Type κ} {D : Type μ} (f : B → List D) (g : A → List B) (s : List A) → each f (each g s) ≡ each (λ a. each f (g a)) s
each-each f g [] = refl
each-each f g (a ∷ s) = each_append f (g a) (each g s) ∙ ap (λ z. each f (g a) ++ z) (each-each f g s)

pub each_same {ℓ κ} : {A : Type ℓ} {B : Type κ} (f g : A → List B) → ((a : A) → f a ≡ g a) → (s : List A) → each f s ≡ each g s
each_same f g h [] = refl
each_same f g h (a ∷ s) = ap₂ ◌++◌ (h a) (each_same f g h s)

pub each_none {ℓ κ} : {A : Type ℓ} {B : Type κ} (s : List A) → each {A = A} {B = B} (λ a. []) s ≡ []
each_none [] = refl
each_none (a ∷ s) = each_none s

pub each-alone {ℓ κ} : {A : Type ℓ} {B : Type κ} (f : A → B) (s : List A) → each (λ a. f a ∷ []) s ≡ map f s
each-alone f [] = refl
each-alone f (a ∷ s) = ap (λ z. f a ∷ z) (each-alone f s)

pub each_self {ℓ} : {A : Type ℓ} (s : List A) → each (λ a. a ∷ []) s ≡ s
each_self [] = refl
each_self (a ∷ s) = ap (λ z. a ∷ z) (each_self s)

-- what is made of one item, or of none
pub each_one {ℓ κ} : {A : Type ℓ} {B : Type κ} (f : A → List B) (c : Bool) (a : A) → each f (one c a) ≡ cond c (f a) []
each_one f true a = append-nil (f a)
each_one f false a = refl

pub map-append {ℓ κ} : {A : Type ℓ} {B : Type κ} (f : A → B) (s t : List A) → map f (s ++ t) ≡ map f s ++ map f t
map-append f [] t = refl
map-append f (a ∷ s) t = ap (λ z. f a ∷ z) (map-append f s t)
