-- What stands between the steps of a run into lent memory: the files and arguments, the run on words, and the memory that is filled.
-- Assumes nothing: these are definitions.
use Rattle.std.specs.Prelude.{◌≡◌, List, [], Option, None, Some, ℕ, ◌≤◌, ◌<◌, length}
use Rattle.rules.specs.Lists.{each}
use Rattle.rules.specs.Refusals.{Result, refuse, then}
use Rattle.rules.specs.Refusals.Result.{refused, answer}
use Rattle.rules.specs.Files.{Case, files}
use Rattle.rules.specs.Joint.{joint}
use Rattle.rules.specs.Calls.{Run, run_to, row_image, weights_image, filled}
use Rattle.theory_codes.specs.Tables as codes
use Rattle.file_lookup.specs.declared.Sizes.{Sizes}
use Rattle.file_lookup.specs.Told.{Files}
use Rattle.file_lookup.specs.Told.Files.{Sound, Unsound}
use Rattle.file_lookup.specs.Answers.{sizes_of}
use Rattle.out_images.specs.Rows.{Held, Weighed}
use Rattle.laying.specs.declared.Answer.{Answer}
use Rattle.laying.specs.Answers.{refused_with, answered, answer_of}

-- ---- the files and the arguments

-- a refusal's numbers fit their places in an answer
pub record Fits (n f p : ℕ) : Type 0 where
  pub some : 1 ≤ n
  pub number : n < 65536
  pub file : f < 65536
  pub place : p < 4294967296

-- an accepted case and a stop minute in its window
pub record Begins (cs bk : List ℕ) (m : ℕ) (s : Sizes) : Type 0 where
  pub of : Case
  pub accepted : files cs bk ≡ answer of
  pub sizes : s ≡ sizes_of of
  pub within : m ≤ of.head.last_minute

-- what the files and the arguments came to
abbrev pub Start : List ℕ → List ℕ → ℕ → Files → Type 0
Start cs bk m (Sound s) = Begins cs bk m s
Start cs bk m (Unsound n f p) = Fits n f p

-- and the run after it, to minute m
abbrev pub run_of : List ℕ → List ℕ → ℕ → Files → Result Run
run_of cs bk m (Sound s) = then (files cs bk) (run_to m)
run_of cs bk m (Unsound n f p) = refuse n (record { file = f; place = p })

-- the refusal of files as an answer
abbrev pub files_answer : Files → Answer
files_answer (Sound s) = answered 0
files_answer (Unsound n f p) = refused_with (record { number = n; file = f; place = p })

abbrev pub Tells : Files → Type 0
Tells (Sound s) = Unit
Tells (Unsound n f p) = Fits n f p

-- ---- the run on words

-- the run has met refusal 12, or it stands in the words
pub data Came (C : Case) (m : ℕ) (r : Option ℕ) (list ws : List ℕ) : Type 0 where
  over : (joint C m).met ≡ 12 → r ≡ None → Came C m r list ws
  stands : {n : ℕ} → (joint C m).met ≡ 0 → r ≡ Some n → length (joint C m).list ≡ n → n ≤ 1024 → Held (length C.trains) (joint C m).list list
      → Weighed C (joint C m).arrived ws → Came C m r list ws

pub record Ran (C : Case) (m : ℕ) (r : Option ℕ) (list ws tables : List ℕ) : Type 0 where
  pub looked : tables ≡ codes.tables C
  pub came : Came C m r list ws

-- ---- lent memory

-- a run that stands in the words fills rows and weights
abbrev pub Filled : ℕ → ℕ → List ℕ → List ℕ → List ℕ → List ℕ → List ℕ → List ℕ → Type 0
Filled n trains list ws rows weights rows' weights' =
    (u : Run) → length u.state.list ≡ n → Held trains u.state.list list → Weighed u.of u.state.arrived ws
    → (rows' ≡ filled 16384 (each row_image u.state.list) rows) × (weights' ≡ filled 40320 (weights_image u) weights)

-- the number of entries
abbrev pub entries : Result Run → Result ℕ
entries (refused r) = refused r
entries (answer u) = answer (length u.state.list)

abbrev pub rows_after : Result Run → List ℕ → List ℕ
rows_after (refused r) rows = filled 16384 [] rows
rows_after (answer u) rows = filled 16384 (each row_image u.state.list) rows

abbrev pub weights_after : Result Run → List ℕ → List ℕ
weights_after (refused r) weights = filled 40320 [] weights
weights_after (answer u) weights = filled 40320 (weights_image u) weights

-- a refusal has a number, and an answered run stands in the words
abbrev pub InWords : Result Run → List ℕ → List ℕ → Type 0
InWords (refused r) tables ws = 1 ≤ r.number
InWords (answer u) tables ws = Weighed u.of u.state.arrived ws × (tables ≡ codes.tables u.of)

pub record Laid (U : Result Run) (rows weights : List ℕ) (a : Answer) (tables ws rows' weights' : List ℕ) : Type 0 where
  pub result : a ≡ answer_of (entries U)
  pub rows_are : rows' ≡ rows_after U rows
  pub weights_are : weights' ≡ weights_after U weights
  pub words : InWords U tables ws
