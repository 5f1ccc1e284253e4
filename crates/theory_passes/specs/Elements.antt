-- A train asks only for elements of its way, and these are known: elements that the case does not have are asked for by nobody. Takes `Sound` as given, and
-- assumes nothing else.
use Rattle.std.specs.Prelude.{◌≡◌, Bool, cond, ℕ, length}
use Rattle.std.proofs.Math.Path.{refl, ap}
use Rattle.std.proofs.Common.{◌∙◌, subst}
use Rattle.std.proofs.Math.Bool.{true, false}
use Rattle.std.proofs.lemmas.Bool.{false≢true}
use mathlib.Core.List.{List, [], ◌∷◌, map}
use Rattle.rules.specs.Files.{Case}
use Rattle.rules.specs.Turns.{Place, same, Mark, Leg, way, after, ahead, head_is, asks, State, state, row, visiting, left, Rules, visit}
use Rattle.rules.specs.Turns.Place.{outside}
use Rattle.theory_lists.specs.Every.{Every, every_map, every_all}
use Rattle.theory_sound.specs.Facts.{Sound}
use Rattle.theory_sound.specs.Ways.{same_true, after_every}
use Rattle.theory_sound.specs.Trains.{Known, way-known}
use Rattle.theory_simulation.specs.Places.{asked}
use Rattle.theory_lists.specs.Items.{items-start}
use Rattle.theory_simulation.specs.Runs.{turns-nobody}

-- ---- who asks

head_every : (P : Place → Type 0) (e : Place) (ls : List Leg) → Every (λ l. P l.place) ls → head_is e ls ≡ true → P e
head_every P e [] h q = absurd (false≢true q)
head_every P e (l ∷ ls) h q = subst P (same_true l.place e q) h.0

module _ (C : Case) (sound : Sound C) where
  -- what is ahead of a train is known
  pub ahead-known : (k : ℕ) (p e : Place) → head_is e (ahead C k p) ≡ true → Known C e
  unfolding ahead
  ahead-known k p e h = go (same p outside) h
    where
      go : (b : Bool) → head_is e (cond b (way C k) (after p (way C k))) ≡ true → Known C e
      go true q = head_every (Known C) e (way C k) (way-known C sound k) q
      go false q = head_every (Known C) e (after p (way C k)) (after_every (λ l. Known C l.place) p (way C k) (way-known C sound k)) q

  -- only known elements are asked for
  pub asks-place : (t : ℕ) (e : Place) (m : Mark) → asks C t e m ≡ true → Known C e
  asks-place t e m h = ahead-known m.train m.place e (asked C t e m h).goes

  module _ {A : Type 0} (R : Rules A) (t : ℕ) where
    -- an element for which nobody asks changes nothing
    pub visit-nobody : (e : Place) (s : State A) → Every (λ a. asks C t e (R.mark a) ≡ false) s.list → visit C R t e s ≡ s
    unfolding visit
    visit-nobody e s h =
        ap left (turns-nobody C R (length s.list) t e (visiting (map (λ a. row a (asks C t e (R.mark a))) s.list) s.arrived s.met)
        (every_map (λ a. asks C t e (R.mark a) ≡ false) (λ r. r.asking ≡ false) (λ a. row a (asks C t e (R.mark a))) (λ a q. q) s.list h))
        ∙ ap (λ (l : List A). state l s.arrived s.met) (items-start (λ a. asks C t e (R.mark a)) s.list)

    pub visit-unknown : (e : Place) → (Known C e → ⊥) → (s : State A) → visit C R t e s ≡ s
    visit-unknown e h s = visit-nobody e s (every_all (λ a. asks C t e (R.mark a) ≡ false) (λ a. go a (asks C t e (R.mark a)) refl) s.list)
      where
        go : (a : A) (b : Bool) → asks C t e (R.mark a) ≡ b → b ≡ false
        go a true q = absurd (h (asks-place t e (R.mark a) q))
        go a false q = refl
