-- What each entry of a run weighs at most. Takes `Sound` as given, and assumes nothing else.
use Rattle.std.specs.Prelude.{ℕ}
use Rattle.rules.specs.Files.{Case}
use Rattle.rules.specs.Joint.{first_list, joint_rules}
use Rattle.rules.specs.Demands.{run_lists}
use Rattle.theory_sound.specs.Facts.{Sound}
use Rattle.theory_lists.specs.Every.{Every, every_more}
use Rattle.theory_simulation.specs.Serving.{Proper}
use Rattle.theory_weights.specs.Kept.{joint-lists}
use Rattle.theory_weights.specs.Most.{Light, proper-light}

-- no entry weighs more, neither in the first list nor in the list after some asking entry was served
pub lists-light : (C : Case) → Sound C → (m : ℕ) → Every (Every (Light C)) (run_lists C (joint_rules C) (first_list C) m)
lists-light C sound m =
    every_more (Every (Proper C)) (Every (Light C)) (every_more (Proper C) (Light C) (proper-light C sound)) (run_lists C (joint_rules C) (first_list C) m)
    (joint-lists C sound m)
