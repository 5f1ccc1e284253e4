-- Request 3 of 02 over accepted files: an element of capacity 1 that is left at t can be entered by another train at t + safety time, and not before; and what
-- the rows of the exported run show of it until then is its block alone (`free_again`). With safety time 0 there is no block at all: no row of a run shows one,
-- and none takes room (`Unblocked` of `theory_demands`). Assumes nothing.
use Rattle.std.specs.Prelude.{◌≡◌, List, [], ◌∷◌, ℕ, ◌+◌, ◌≤◌, ◌<◌}
use Rattle.std.proofs.Common.{sym, ap, ◌∙◌, subst}
use Rattle.rules.specs.Lists.{keep}
use Rattle.rules.specs.Refusals.Result.{answer}
use Rattle.rules.specs.Files.{Case, files}
use Rattle.rules.specs.Turns.{Place, same, Mark, block, capacity}
use Rattle.rules.specs.Freed.{Leaves, FreeAgain}
use Rattle.rules.specs.Joint.{Entry, first_list, joint_rules}
use Rattle.rules.specs.Demands.{Choice, view, run_lists}
use Rattle.rules.specs.Decoded.{entries_in}
use Rattle.rules.specs.Promised.{Meant}
use Rattle.theory_lists.specs.Every.{Every}
use Rattle.theory_sound.proofs.Accepted.{accepted-sound}
use Rattle.theory_simulation.specs.Freed.{free_again}
use Rattle.theory_demands.specs.Unblocked.{Stands, joint-stands, lists_stand}

-- of the single run: nobody enters it before t + safety time, its block alone is on it until then, and at its first turn from then on it is free
pub free_again_promise : (cs bk : List ℕ) (C : Case) → files cs bk ≡ answer C → (x : List ℕ) (t k : ℕ) (e f : Place) → capacity C e ≡ 1 → Leaves C x t k e f
    → FreeAgain C x t k e f
free_again_promise cs bk C accepted = free_again C (accepted-sound cs bk C accepted)

-- of the exported run, stopped at a minute u from t on and before t + safety time: of the entries in the lent rows that cover the choice, the one that is on
-- the element is the train's block, with that end
pub freed_seen : (cs bk : List ℕ) (C : Case) → files cs bk ≡ answer C → (x : List ℕ) → Choice C x
    → (t k : ℕ) (e f : Place) → capacity C e ≡ 1 → Leaves C x t k e f
    → {u n : ℕ} {rows weights rows' weights' : List ℕ} → Meant C u n rows weights rows' weights' → t ≤ u → u < t + C.head.safety
    → keep (λ m. same m.place e) (view x (entries_in n rows')) ≡ block k e (t + C.head.safety) ∷ []
freed_seen cs bk C accepted x choice t k e f room leaves {u} meant from until =
    ap (λ (l : List Mark). keep (λ m. same m.place e) l) (meant.seen x choice)
    ∙ (free_again_promise cs bk C accepted x t k e f room leaves).blocked u from until

-- safety time 0: after an answered run no row that was filled is a block
pub unblocked_rows : {C : Case} {u n : ℕ} {rows weights rows' weights' : List ℕ} → C.head.safety ≡ 0 → Meant C u n rows weights rows' weights'
    → Every Stands (entries_in n rows')
unblocked_rows {C} {u} none meant = subst {A = List Entry} (Every Stands) (sym meant.entries) (joint-stands C none u)

-- and no list that is held against the room has one: neither the first, nor that after any asking entry was served
pub unblocked_room : (C : Case) → C.head.safety ≡ 0 → (m : ℕ) → Every (Every Stands) (run_lists C (joint_rules C) (first_list C) m)
unblocked_room C none m = lists_stand C none m
