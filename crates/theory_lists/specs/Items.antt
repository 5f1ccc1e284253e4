-- The items of rows: of rows that do not ask, of rows at the start of a visit, and of the rows around an asker before and after it is served.
-- Each is an induction on the list. Assumes nothing.
use Rattle.std.specs.Prelude.{◌≡◌, refl, Bool, true, List, [], ◌∷◌, ◌++◌, map}
use Rattle.std.proofs.Common.{ap, ap₂, ◌∙◌}
use Rattle.rules.specs.Turns.{Served, Row, row, items, quiet}
use Rattle.theory_lists.specs.Each.{map-append}

module _ {A : Type 0} where
  pub items-quiet : (l : List A) → items (quiet l) ≡ l
  items-quiet [] = refl
  items-quiet (a ∷ l) = ap (λ (r : List A). a ∷ r) (items-quiet l)

  pub items-start : (f : A → Bool) (l : List A) → items (map (λ a. row a (f a)) l) ≡ l
  items-start f [] = refl
  items-start f (a ∷ l) = ap (λ (r : List A). a ∷ r) (items-start f l)

  pub items-append : (s t : List (Row A)) → items (s ++ t) ≡ items s ++ items t
  items-append s t = map-append (λ r. r.item) s t

  -- the rows after an asker is served
  abbrev pub served_rows : Served A → List (Row A) → List (Row A) → List (Row A)
  served_rows s b c = b ++ quiet s.rows ++ c ++ quiet s.added

  -- the list after an asker is served
  abbrev pub served_list : Served A → List A → List A → List A
  served_list s b c = b ++ s.rows ++ c ++ s.added

  pub items_asker : (b : List (Row A)) (a : A) (c : List (Row A)) → items (b ++ (row a true ∷ c)) ≡ items b ++ (a ∷ items c)
  items_asker b a c = items-append b (row a true ∷ c)

  pub items-served : (s : Served A) (b c : List (Row A)) → items (served_rows s b c) ≡ served_list s (items b) (items c)
  items-served s b c =
      items-append (b ++ quiet s.rows ++ c) (quiet s.added)
      ∙ ap₂ ◌++◌
      (items-append (b ++ quiet s.rows) c
      ∙ ap (λ (z : List A). z ++ items c) (items-append b (quiet s.rows) ∙ ap (λ (z : List A). items b ++ z) (items-quiet s.rows)))
      (items-quiet s.added)
