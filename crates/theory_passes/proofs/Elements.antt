-- The elements of a minute may be taken by their codes, 0 to 64: elements that the case does not have are asked for by nobody. Takes `Sound` as given, and
-- assumes nothing else.
use Rattle.std.specs.Prelude.{◌≡◌, ℕ, length}
use Rattle.std.proofs.Math.Path.{refl, sym, ap}
use Rattle.std.proofs.Common.{◌∙◌, arith}
use mathlib.Core.List.{List, [], ◌∷◌, ◌++◌, map}
use Rattle.rules.specs.Lists.{fold, below}
use Rattle.rules.specs.Files.{Case}
use Rattle.rules.specs.Turns.{Place, elements, State, Rules, visit}
use Rattle.rules.specs.Turns.Place.{station, track, gone}
use Rattle.theory_sound.specs.Facts.{Sound}
use Rattle.theory_codes.specs.Codes.{place_of}
use Rattle.theory_passes.specs.Passes.{element_codes}
use Rattle.theory_lists.specs.Folds.{fold-append, fold-map, fold-below}
use Rattle.theory_passes.specs.Elements.{visit-unknown}

module _ (C : Case) (sound : Sound C) where
  module _ {A : Type 0} (R : Rules A) (t : ℕ) where
    codes_places : map place_of element_codes ≡ map station (below 24) ++ map track (below 40) ++ (gone ∷ [])
    unfolding place_of
    codes_places = refl

    -- the elements of the case one after another are the elements of all codes one after another
    pub visits_codes : (s : State A) → fold (visit C R t) (elements C) s ≡ fold (λ c. visit C R t (place_of c)) element_codes s
    unfolding elements
    visits_codes s =
        parts (below (length C.stations)) (below (length C.tracks)) s
        ∙ sym (ap (λ (u : State A). visit C R t gone (fold (λ j. visit C R t (track j)) (below 40) u))
        (fold-below (λ i. visit C R t (station i)) 24 (length C.stations) sound.few_stations (λ i u h. visit-unknown C sound R t (station i) (λ k. omega arith) u) s)
        ∙ ap (visit C R t gone)
        (fold-below (λ j. visit C R t (track j)) 40 (length C.tracks) sound.few_tracks (λ j u h. visit-unknown C sound R t (track j) (λ k. omega arith) u)
        (fold (λ i. visit C R t (station i)) (below (length C.stations)) s)))
        ∙ sym (parts (below 24) (below 40) s)
        ∙ ap (λ (l : List Place). fold (visit C R t) l s) (sym codes_places)
        ∙ fold-map (visit C R t) place_of element_codes s
      where
        parts : (a b : List ℕ) (s : State A)
            → fold (visit C R t) (map station a ++ map track b ++ (gone ∷ [])) s
            ≡ visit C R t gone (fold (λ j. visit C R t (track j)) b (fold (λ i. visit C R t (station i)) a s))
        parts a b s =
            fold-append (visit C R t) (map station a ++ map track b) (gone ∷ []) s
            ∙ ap (visit C R t gone)
            (fold-append (visit C R t) (map station a) (map track b) s
            ∙ fold-map (visit C R t) track b (fold (visit C R t) (map station a) s)
            ∙ ap (fold (λ j. visit C R t (track j)) b) (fold-map (visit C R t) station a s))
