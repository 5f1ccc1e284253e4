-- What the two plain calls begin with: lent weights, files and a stop minute, each of them looked at. Assumes nothing: this is a definition.
use Rattle.std.specs.Prelude.{◌≡◌, List, ℕ, ◌≤◌, length, Result, Ok, Err}
use Rattle.rules.specs.Files.{Case}
use Rattle.rules.specs.Plain.{Plain, plain_of, weighing}
use Rattle.file_lookup.specs.declared.Sizes.{Sizes}
use Rattle.file_lookup.specs.Told.Files.{Sound}
use Rattle.file_lookup.specs.Answers.{files_of}
use Rattle.file_arguments.specs.Arguments.{for_stop}
use Rattle.laying.specs.declared.Answer.{Answer}
use Rattle.desk.specs.Answers.{GivesWeights}

-- the call is refused, whichever choices it asks for; or the files are read, and the weights are long enough and as they were
abbrev pub Begun : List ℕ → List ℕ → ℕ → List ℕ → Result Sizes Answer → List ℕ → Type 0
Begun cs bk m weights (Err a) weights' =
    (which : Case → List (List ℕ)) (image : Plain → List ℕ) → GivesWeights (weighing image weights (plain_of which cs bk m)) a weights'
Begun cs bk m weights (Ok s) weights' = (Sound s ≡ files_of (for_stop cs bk m)) × (40320 ≤ length weights) × (weights' ≡ weights)
