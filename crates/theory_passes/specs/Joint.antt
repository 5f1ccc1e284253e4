-- The states that the joint run can be in. That passes keep them so, and that the run is the run by passes, is proved in proofs/Joint.antt. Assumes nothing:
-- this is a definition.
use Rattle.std.specs.Prelude.{◌≡◌, ◌≤◌}
use Rattle.std.proofs.Math.ListN.{length}
use Rattle.rules.specs.Files.{Case}
use Rattle.rules.specs.Turns.{State}
use Rattle.rules.specs.Joint.{Entry}
use Rattle.theory_lists.specs.Every.{Every}
use Rattle.theory_simulation.specs.Serving.{Proper}

-- ---- lawful states

-- a state that the joint run can be in: its covers are parts of the whole cover, and while nothing is met the list has room
pub record Lawful (C : Case) (s : State Entry) : Type 0 where
  pub proper : Every (Proper C) s.list
  pub arrivals : Every (λ v. Proper C v.who) s.arrived
  pub fits : s.met ≡ 0 → length s.list ≤ C.head.room
