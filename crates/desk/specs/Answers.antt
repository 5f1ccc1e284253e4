-- What the exported functions answer and leave in lent memory: the C structs of the answers of 01, field by field, and the contract of each function
-- under a name of its own. Assumes nothing: these are definitions.
use Rattle.std.specs.Prelude.{◌≡◌, List, [], ℕ}
use Rattle.std.proofs.Math.Option.{Option}
use Rattle.rules.specs.Refusals.{Result}
use Rattle.rules.specs.Viewer.{viewed}
use Rattle.rules.specs.Calls.{Memory, Lent, single_run, run_call, listing_call, figures_call}
use Rattle.rules.specs.Plain.{LentWeights, plain_call, part_call}
use Rattle.rules.specs.Answers as answers
use Rattle.laying.specs.declared.Answer.{Answer}
use Rattle.telling.specs.declared.TrainFigures.{TrainFigures}
use Rattle.desk.specs.declared.Viewed.{Viewed}
use Rattle.laying.specs.Answers.{struct_of, answer_of}
use Rattle.telling.specs.Answers.{figures_of}

-- ---- the single run

-- minute of arrival, or 65,535
abbrev pub single_answer : Result (Option ℕ) → Answer
single_answer r = struct_of (answers.minute_answer r)

-- ---- the field viewer

-- the struct of its answer
abbrev pub viewed_struct : answers.ViewAnswer → Viewed
viewed_struct a = record { refusal = a.refusal; given = a.given; tag = a.tag; size = a.size; next = a.next }

-- what is given of a file at a place
abbrev pub viewed_of : List ℕ → ℕ → Viewed
viewed_of l i = viewed_struct (answers.view_answer i (viewed l i))

-- ---- lent memory

-- a call that is lent no text
abbrev pub lent_two : List ℕ → List ℕ → Memory
lent_two rows weights = record { rows = rows; weights = weights; text = [] }

abbrev pub lent_three : List ℕ → List ℕ → List ℕ → Memory
lent_three rows weights text = record { rows = rows; weights = weights; text = text }

-- the answer is the call's result, and rows and weights are its memory
pub record Gives {A B : Type 0} (told : Result A → B) (call : Lent A) (a : B) (rows weights : List ℕ) : Type 0 where
  pub result : a ≡ told call.result
  pub rows_are : rows ≡ call.memory.rows
  pub weights_are : weights ≡ call.memory.weights

-- and the text too
pub record GivesText {A B : Type 0} (told : Result A → B) (call : Lent A) (a : B) (rows weights text : List ℕ) : Type 0 where
  pub two : Gives told call a rows weights
  pub text_is : text ≡ call.memory.text

-- a call that is lent the weights alone: the answer is its result, and the weights are its memory
pub record GivesWeights (call : LentWeights) (a : Answer) (weights : List ℕ) : Type 0 where
  pub result : a ≡ answer_of call.result
  pub weights_are : weights ≡ call.weights

-- ---- what each exported function ensures: of its arguments and the memory before, the answer a and the memory after

-- `lampreysong_single`
abbrev pub SingleGives : List ℕ → List ℕ → List ℕ → ℕ → Answer → Type 0
SingleGives cs bk choice train a = a ≡ single_answer (single_run cs bk choice train)

-- `lampreysong_run`
abbrev pub RunGives : List ℕ → List ℕ → ℕ → List ℕ → List ℕ → Answer → List ℕ → List ℕ → Type 0
RunGives cs bk stop rows weights a rows' weights' = Gives answer_of (run_call cs bk stop (lent_two rows weights)) a rows' weights'

-- `lampreysong_listing`
abbrev pub ListingGives : List ℕ → List ℕ → List ℕ → List ℕ → List ℕ → Answer → List ℕ → List ℕ → List ℕ → Type 0
ListingGives cs bk rows weights text a rows' weights' text' = GivesText answer_of (listing_call cs bk (lent_three rows weights text)) a rows' weights' text'

-- `lampreysong_figures`
abbrev pub FiguresGives : List ℕ → List ℕ → ℕ → ℕ → List ℕ → List ℕ → TrainFigures → List ℕ → List ℕ → Type 0
FiguresGives cs bk train limit rows weights a rows' weights' = Gives figures_of (figures_call cs bk train limit (lent_two rows weights)) a rows' weights'

-- `lampreysong_plain`
abbrev pub PlainGives : List ℕ → List ℕ → ℕ → List ℕ → Answer → List ℕ → Type 0
PlainGives cs bk stop weights a weights' = GivesWeights (plain_call cs bk stop weights) a weights'

-- `lampreysong_plain_part`
abbrev pub PartGives : List ℕ → List ℕ → ℕ → ℕ → ℕ → List ℕ → Answer → List ℕ → Type 0
PartGives cs bk stop first most weights a weights' = GivesWeights (part_call cs bk stop first most weights) a weights'

-- `lampreysong_field`
abbrev pub FieldGives : List ℕ → ℕ → Viewed → Type 0
FieldGives l i a = a ≡ viewed_of l i
