-- The choices of a case, numbered: for each train the choice of a number has that number divided by how many choices the trains after it have, and of that what is
-- left over by the size of its own table. So the last train's delay changes fastest, and there are as many choices as the sizes of the tables multiplied.
-- Numbers by blocks, one for each delay of the first train; within a block the other trains go through all of theirs. Takes `Sound` as given, and assumes nothing
-- else.
use Rattle.std.specs.Prelude.{◌≡◌, refl, ℕ, zero, suc, ◌+◌, ◌*◌, ◌/◌, ◌%◌, ◌^◌, ◌≤◌, ◌<◌, get_or}
use Rattle.std.proofs.Math.Path.{sym, ap}
use Rattle.std.proofs.Common.{ap₂, ◌∙◌, mul_assoc, mul-pos, mul-le-mul, mod-eq_of_lt, arith}
use mathlib.Core.List.{List, [], ◌∷◌, map}
use Rattle.std.proofs.Math.Nat.{mul-add-div_right, mul-add-mod_self_right, div-eq_of_lt, pow-succ', pow-le-pow_right}
use Rattle.std.proofs.Math.ListN.{length}
use Rattle.rules.specs.Lists.{product, span, below}
use Rattle.rules.specs.Files.{most_trains, Case}
use Rattle.rules.specs.Joint.{choices_in, choices, whole}
use Rattle.rules.specs.Promised.{combinations}
use Rattle.theory_sound.specs.Facts.{Sound}
use Rattle.theory_lists.specs.Every.{Every, every_map}
use Rattle.theory_lists.specs.Below.{map-blocks, each-below-same, every_below, get_d_below, length-span-map}

-- the sizes of the trains' tables, by train number
unfoldable pub sizes : Case → List ℕ
sizes C = map (λ k. length (get_or C.tables k [])) (below (length C.trains))

-- numbers multiplied
abbrev pub times : List ℕ → ℕ
times l = product (λ s. s) l

-- the indices of the choice numbered i, where the tables have these sizes
abbrev pub indices : List ℕ → ℕ → List ℕ
indices [] i = []
indices (s ∷ l) i = i / times l % s ∷ indices l i

-- ---- numbers by blocks

pub map_same : {A : Type 0} (f g : ℕ → A) (n k : ℕ) → ((i : ℕ) → i < k + n → f i ≡ g i) → map f (span n k) ≡ map g (span n k)
map_same f g zero k h = refl
map_same f g (suc n) k h = ap₂ (λ (a : _) (l : List _). a ∷ l) (h k (omega arith)) (map_same f g n (suc k) (λ i m. h i (omega arith)))

-- ---- the choices of tables of these sizes

times-some : (l : List ℕ) → Every (λ s. 0 < s) l → 0 < times l
times-some [] h = omega arith
times-some (s ∷ l) h = mul-pos h.0 (times-some l h.1)

-- a whole round more, and the indices are the same
indices_round : (l : List ℕ) → Every (λ s. 0 < s) l → (d i : ℕ) → indices l (d * times l + i) ≡ indices l i
indices_round [] h d i = refl
indices_round (s ∷ l) h d i =
    ap₂ (λ (a : ℕ) (m : List ℕ). a ∷ m)
    (ap (λ (n : ℕ). (n + i) / times l % s) by_blocks
    ∙ ap (λ (n : ℕ). n % s) (mul-add-div_right (times-some l h.1) (d * s) i)
    ∙ mul-add-mod_self_right d s (i / times l))
    (ap (λ (n : ℕ). indices l (n + i)) by_blocks ∙ indices_round l h.1 (d * s) i)
  where
    by_blocks : d * (s * times l) ≡ d * s * times l
    by_blocks = sym (mul_assoc d s (times l))

-- the number t of the block d
indices-block : (s : ℕ) (l : List ℕ) → Every (λ s. 0 < s) l → (d t : ℕ) → d < s → t < times l → indices (s ∷ l) (d * times l + t) ≡ d ∷ indices l t
indices-block s l h d t in_table in_block =
    ap₂ (λ (a : ℕ) (m : List ℕ). a ∷ m)
    (ap (λ (n : ℕ). n % s) (mul-add-div_right (times-some l h) d t ∙ ap (λ (n : ℕ). d + n) (div-eq_of_lt in_block))
    ∙ ap (λ (n : ℕ). n % s) plain
    ∙ mod-eq_of_lt in_table)
    (indices_round l h d t)
  where
    plain : d + 0 ≡ d
    plain = omega arith

map-map : {A B D : Type 0} (f : B → D) (g : A → B) (l : List A) → map f (map g l) ≡ map (λ a. f (g a)) l
map-map f g [] = refl
map-map f g (a ∷ l) = ap (λ (m : List _). f (g a) ∷ m) (map-map f g l)

numbered : (l : List ℕ) → Every (λ s. 0 < s) l → choices_in (map below l) ≡ map (indices l) (below (times l))
unfolding choices_in
numbered [] h = refl
numbered (s ∷ l) h =
    each-below-same (λ d. map (λ x. d ∷ x) (choices_in (map below l))) (λ d. map (λ t. indices (s ∷ l) (d * times l + t)) (below (times l))) s (block (numbered l h.1))
    ∙ sym (map-blocks (indices (s ∷ l)) s (times l))
  where
    block : choices_in (map below l) ≡ map (indices l) (below (times l)) → (d : ℕ) → d < s
        → map (λ x. d ∷ x) (choices_in (map below l)) ≡ map (λ t. indices (s ∷ l) (d * times l + t)) (below (times l))
    block rest d low =
        ap (map (λ x. d ∷ x)) rest
        ∙ map-map (λ x. d ∷ x) (indices l) (below (times l))
        ∙ map_same (λ t. d ∷ indices l t) (λ t. indices (s ∷ l) (d * times l + t)) (times l) 0 (λ t m. sym (indices-block s l h.1 d t low (omega arith)))

-- ---- the choices of a case

map_next : {A : Type 0} (f : ℕ → A) (n k : ℕ) → map f (span n (suc k)) ≡ map (λ i. f (suc i)) (span n k)
map_next f zero k = refl
map_next f (suc n) k = ap (λ (l : List _). f (suc k) ∷ l) (map_next f n (suc k))

-- a list by its places
map-places : {A B : Type 0} (f : A → B) (l : List A) (z : A) → map f l ≡ map (λ k. f (get_or l k z)) (below (length l))
map-places f [] z = refl
map-places f (a ∷ l) z = ap (λ (m : List _). f a ∷ m) (map-places f l z ∙ sym (map_next (λ k. f (get_or (a ∷ l) k z)) (length l) 0))

product-map : {A : Type 0} (f : A → ℕ) (l : List A) → product f l ≡ times (map f l)
product-map f [] = refl
product-map f (a ∷ l) = ap (λ (n : ℕ). f a * n) (product-map f l)

module _ (C : Case) (sound : Sound C) where
  -- each train's set in the whole cover has the indices of its table
  whole-sizes : whole C ≡ map below (sizes C)
  unfolding whole sizes
  whole-sizes =
      map-places (λ pairs. below (length pairs)) C.tables []
      ∙ ap (λ (n : ℕ). map (λ k. below (length (get_or C.tables k []))) (below n)) sound.tabled
      ∙ sym (map-map below (λ k. length (get_or C.tables k [])) (below (length C.trains)))

  pub sizes-some : Every (λ s. 0 < s) (sizes C)
  unfolding sizes
  sizes-some =
      every_map (λ k. k < length C.trains) (λ s. 0 < s) (λ k. length (get_or C.tables k [])) (λ k l. sound.some_pair k l)
      (below (length C.trains)) (every_below (length C.trains))

  pub sizes-most : Every (λ s. s ≤ 8) (sizes C)
  unfolding sizes
  sizes-most =
      every_map (λ k. k < length C.trains) (λ s. s ≤ 8) (λ k. length (get_or C.tables k [])) (λ k l. sound.few_pairs k l)
      (below (length C.trains)) (every_below (length C.trains))

  pub sizes-length : length (sizes C) ≡ length C.trains
  unfolding sizes
  sizes-length = length-span-map (λ k. length (get_or C.tables k [])) (length C.trains) 0

  pub combinations-times : combinations C ≡ times (sizes C)
  unfolding combinations sizes
  combinations-times = product-map (λ k. length (get_or C.tables k [])) (below (length C.trains))

  -- the choices in their order are those of the numbers from 0 on
  pub choices_numbered : choices C ≡ map (indices (sizes C)) (below (combinations C))
  unfolding choices
  choices_numbered =
      ap choices_in whole-sizes
      ∙ numbered (sizes C) sizes-some
      ∙ ap (λ (n : ℕ). map (indices (sizes C)) (below n)) (sym combinations-times)

  -- there are as many as the sizes of the tables multiplied
  pub choices-count : length (choices C) ≡ combinations C
  choices-count = ap (λ (l : List (List ℕ)). length l) choices_numbered ∙ length-span-map (indices (sizes C)) (combinations C) 0

  pub choice_numbered : (i : ℕ) → i < combinations C → get_or (choices C) i [] ≡ indices (sizes C) i
  choice_numbered i l = ap (λ (m : List (List ℕ)). get_or m i []) choices_numbered ∙ get_d_below (indices (sizes C)) (combinations C) i [] l

  -- at most 8^7, which is 2,097,152
  pub combinations-most : combinations C ≤ 8 ^ most_trains
  combinations-most =
      let few : length (sizes C) ≤ most_trains = omega (arith, sizes-length, sound.few_trains) in
      omega (arith, combinations-times, times-most (sizes C) sizes-most, pow-le-pow_right {n = 8} (omega arith) few)
    where
      times-most : (l : List ℕ) → Every (λ s. s ≤ 8) l → times l ≤ 8 ^ length l
      times-most [] h = omega arith
      times-most (s ∷ l) h = omega (arith, mul-le-mul h.0 (times-most l h.1), pow-succ' 8 (length l))
