-- What comes of an asker of the joint run is told by the covers that it meets. That a walk of the joint run is a pass is proved in proofs/Pass.antt. Assumes
-- nothing.
use Rattle.std.specs.Prelude.{◌≡◌, ℕ}
use Rattle.std.proofs.Math.Path.{refl}
use mathlib.Core.List.{List}
use Rattle.rules.specs.Files.{Case}
use Rattle.rules.specs.Turns.{Place}
use Rattle.rules.specs.Joint.{Entry, meets, meets_across, pieces, serve_entry}
use Rattle.theory_passes.specs.Passes.{pieces_among, serve_among}

-- ---- what comes of an asker

-- an asker of train k meets what is not train k's
pub serve_entry_among : (C : Case) (t : ℕ) (e : Place) (l : List Entry) (r : Entry)
    → serve_entry C t e l r ≡ serve_among C t e (meets_across C e r.mark.train l) (meets e r.mark.train l) r
unfolding serve_entry pieces serve_among pieces_among
serve_entry_among C t e l r = refl
