-- Marks of a run as states: a state holds them, and tells by its fields whether a block has ended and whether an entry is due. Assumes nothing.
use Rattle.std.specs.Prelude.{◌≡◌, Bool, not, ◌&&◌, ◌∷◌, ℕ, eqb}
use Rattle.std.proofs.Math.Path.{refl, ap₂, sym}
use Rattle.std.proofs.Common.{◌∙◌, le-leb, ltb-true, ltb-false}
use Rattle.std.proofs.Math.Bool.{true, false, cond}
use Rattle.std.proofs.Math.Dec.{ltb, leb}
use Rattle.std.proofs.lemmas.Bool.{lt-leb}
use Rattle.rules.specs.Lists.{tick}
use Rattle.rules.specs.Files.{Case}
use Rattle.rules.specs.Turns.{Mark, leg, way, ended}
use Rattle.rules.specs.Turns.Place.{outside}
use Rattle.theory_sound.specs.Facts.{Sound}
use Rattle.theory_lists.specs.Every.{every_more}
use Rattle.theory_sound.specs.Trains.{way-known}
use Rattle.theory_codes.specs.Codes.{state_of}
use Rattle.theory_codes.specs.Places.{Coded, known-coded}
use Rattle.theory_codes.specs.States.{Fit, state-blocks, state-minute}
use Rattle.theory_passes.specs.Bounds.{Bounded, bounded-minute, way_every}
use Rattle.rows.specs.Rows.{ended_of}
use Rattle.asking.specs.Ask.{due_of}

pub bounded-coded : (C : Case) → Sound C → (m : Mark) → Bounded C m → Coded m.place
bounded-coded C sound m b =
    way_every Coded m.place (leg outside 0 ∷ way C m.train)
    (tt, every_more _ _ (λ l k. known-coded C sound l.place k) (way C m.train) (way-known C sound m.train)) b.is_on_way

pub bounded_fit : (C : Case) → Sound C → (m : Mark) → Bounded C m → Fit m
bounded_fit C sound m b = record { coded = bounded-coded C sound m b; minute = bounded-minute C sound m b }

module _ (m : Mark) (f : Fit m) where
  pub ended-state : (t : ℕ) → ended_of t (state_of m) ≡ ended t m
  unfolding ended_of ended
  ended-state t =
      ap₂ (λ (b u : ℕ). cond (eqb b 1) (leb u t) false) (state-blocks m f) (state-minute m f) ∙ go m.blocks
    where
      go : (b : Bool) → cond (eqb (tick b) 1) (leb m.minute t) false ≡ (b && leb m.minute t)
      go true = refl
      go false = refl

  pub due-state : (t : ℕ) → due_of t (state_of m) ≡ (not m.blocks && leb m.minute t)
  unfolding due_of
  due-state t =
      ap₂ (λ (b u : ℕ). cond (eqb b 1) false (not (ltb t u))) (state-blocks m f) (state-minute m f) ∙ go m.blocks (ltb t m.minute) refl
    where
      go : (b c : Bool) → ltb t m.minute ≡ c → cond (eqb (tick b) 1) false (not c) ≡ (not b && leb m.minute t)
      go true c h = refl
      go false true h = sym (lt-leb m.minute t (ltb-true t m.minute h))
      go false false h = sym (le-leb m.minute t (ltb-false t m.minute h))
