-- What holds of every answered run of files of bytes, so that its images tell it: each entry is shown whole by its row, and each weight by its eight bytes.
-- The covers are parts of the whole one, minutes are bounded, and no weight is above that of all choices. Assumes nothing.
use Rattle.std.specs.Prelude.{◌≡◌, List, [], ◌∷◌, ℕ, ◌^◌, ◌<◌, length}
use Rattle.std.proofs.Common.{sym, subst, arith}
use Rattle.rules.specs.Lists.{each}
use Rattle.rules.specs.Files.{Case, most_trains}
use Rattle.rules.specs.Turns.{State}
use Rattle.rules.specs.Joint.{Cover, whole, Entry, joint, weight_at}
use Rattle.rules.specs.Calls.{Run, row_image, weights_image}
use Rattle.rules.specs.Promised.{Bytes}
use Rattle.theory_lists.specs.Every.{Every, every_more}
use Rattle.theory_sound.specs.Facts.{Sound}
use Rattle.theory_sound.proofs.Accepted.{accepted-sound}
use Rattle.theory_sound.specs.Runs.{Answered}
use Rattle.theory_simulation.specs.Parts.{Parts}
use Rattle.theory_simulation.specs.Simulation.{joint-proper}
use Rattle.theory_weights.specs.Arrivals.{weight_at-most}
use Rattle.theory_weights.specs.Most.{total-most}
use Rattle.theory_demands.specs.Demands.{seen}
use Rattle.theory_passes.proofs.Joint.{joint-passes}
use Rattle.theory_passes.specs.Bounds.{Bounded}
use Rattle.theory_passes.proofs.Bounds.{joint-bounded}
use Rattle.entries.specs.Encoded.{Good, proper_packable}
use Rattle.entries.specs.Agreeing.{good_every}
use Rattle.laying.specs.Delays.{byte-delays}
use Rattle.promises.specs.Images.{AllFilled, Shown, Weighable, rows-one, weights-one}

parts-filled : (ws p : Cover) → Parts ws p → AllFilled p
parts-filled [] [] h = tt
parts-filled [] (s ∷ p) h = absurd h
parts-filled (w ∷ ws) [] h = absurd h
parts-filled (w ∷ ws) (s ∷ p) h = (h.0.filled, parts-filled ws p h.1)

good_shown : (C : Case) → Sound C → (r : Entry) → Good C r → Shown r
good_shown C sound r g = record {
  minute = omega (arith, g.0.in_time);
  trains = length C.tables;
  cover = proper_packable C sound r.cover g.1;
  filled = parts-filled (whole C) r.cover g.1;
}

module _ (cs bk : List ℕ) (p : Bytes cs) (q : Bytes bk) (m : ℕ) (u : Run) (a : Answered cs bk m u) where
  run_sound : Sound u.of
  run_sound = accepted-sound cs bk u.of a.accepted

  -- each entry of the list is shown whole by its row
  pub list-shown : Every Shown u.state.list
  list-shown =
      subst (λ (s : State Entry). Every Shown s.list) (sym a.state)
      (every_more (Good u.of) Shown (good_shown u.of run_sound) (joint u.of m).list
      (good_every u.of (joint u.of m).list (joint-proper u.of run_sound m).0
      (subst (λ (s : State Entry). Every (λ r. Bounded u.of r.mark) s.list) (sym (joint-passes u.of run_sound m))
      (joint-bounded u.of run_sound (byte-delays cs bk u.of p q a.accepted) m a.in_window))))

-- each weight is held by eight bytes
pub run_weighable : (cs bk : List ℕ) (m : ℕ) (u : Run) → Answered cs bk m u → Weighable u
run_weighable cs bk m u a k t =
    let sound : Sound u.of = accepted-sound cs bk u.of a.accepted in
    subst (λ (s : State Entry). weight_at u.of s.arrived k t < 256 ^ 8) (sym a.state)
    (omega (arith, weight_at-most u.of sound m (seen cs bk u.of a.accepted m) k t, total-most u.of sound))

-- two answered runs with the same rows have the same list
pub runs_rows : (cs bk ds ck : List ℕ) → Bytes cs → Bytes bk → Bytes ds → Bytes ck → (m n : ℕ) (u v : Run) → Answered cs bk m u → Answered ds ck n v
    → each row_image u.state.list ≡ each row_image v.state.list → u.state.list ≡ v.state.list
runs_rows cs bk ds ck p q p' q' m n u v a b e =
    rows-one u.state.list v.state.list (list-shown cs bk p q m u a) (list-shown ds ck p' q' n v b) e

-- two answered runs with the same weights' image have the same weights
pub runs_weights : (cs bk ds ck : List ℕ) (m n : ℕ) (u v : Run) → Answered cs bk m u → Answered ds ck n v → weights_image u ≡ weights_image v
    → (k t : ℕ) → k < most_trains → t < 720 → weight_at u.of u.state.arrived k t ≡ weight_at v.of v.state.arrived k t
runs_weights cs bk ds ck m n u v a b e k t l h = weights-one u v (run_weighable cs bk m u a) (run_weighable ds ck n v b) e k t l h
