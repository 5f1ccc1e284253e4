-- 01, "Refusal numbers", from "Order" on: the first refusal of a call, its answer, and what it leaves in lent memory, by the images of docs/FORMATS.md.
-- Assumes nothing: these are definitions.
use Rattle.std.specs.Prelude.{Bool, true, false, not, ◌||◌, cond, List, [], ◌∷◌, ◌++◌, map, ℕ, zero, suc, ◌-◌, ◌*◌, ◌/◌, ◌%◌, ◌^◌, length, get_or, drop, replicate, leb, ltb, eqb}
use Rattle.std.proofs.Math.Option.{Option}
use Rattle.rules.specs.Lists.{each, any, sum, below}
use Rattle.rules.specs.Refusals.{number, Rule, ◌when◌, nowhere, Result, refuse, then, answer_unless, judged}
use Rattle.rules.specs.Refusals.Fault.{too_short, wrong_choice, no_train, stop_too_late}
use Rattle.rules.specs.Refusals.Result.{refused, answer}
use Rattle.rules.specs.Files.{most_trains, Case, files}
use Rattle.rules.specs.Turns.{kind_of, number_of, State}
use Rattle.rules.specs.Single.{arrival}
use Rattle.rules.specs.Joint.{Cover, Entry, joint, weight_at}
use Rattle.rules.specs.Listing.{listing}
use Rattle.rules.specs.Figures.{Figures, figures}

-- ---- the answers: the files and 11, then the call's arguments, then 12 as the run meets it; 12 to 17 have file 0 and place 0

-- the case of the two files, judged first; then the call's arguments are judged, by the rules 15, 16 and 17 that the call has
abbrev pub case_for : List ℕ → List ℕ → (Case → List Rule) → Result Case
case_for cs bk arguments = then (files cs bk) (λ C. judged (arguments C) nowhere C)

-- 15: a wrong count, or an index past the table of its train
unfoldable pub choice_broken : Case → List ℕ → Bool
choice_broken C x =
    not (eqb (length x) (length C.trains))
    || any (λ k. leb (length (get_or C.tables k [])) (get_or x k 0)) (below (length C.trains))

-- 16: trains are numbered from 0
unfoldable pub no_such_train : Case → ℕ → Bool
no_such_train C k = leb (length C.trains) k

-- the single run: the minute in which the choice x brings train k in, or none by T
unfoldable pub single_run : List ℕ → List ℕ → List ℕ → ℕ → Result (Option ℕ)
single_run cs bk x k =
    then (case_for cs bk (λ C. wrong_choice when choice_broken C x ∷ no_train when no_such_train C k ∷ [])) (λ C. answer (arrival C x k))

-- a case and its joint run up to some minute
pub record Run : Type 0 where
  pub of : Case
  pub state : State Entry

-- the run to minute m, or the refusal that it met
abbrev pub run_to : ℕ → Case → Result Run
run_to m C = answer_unless (joint C m).met nowhere (record { of = C; state = joint C m })

-- the run that stops after minute m; 17: m is above T
unfoldable pub stopped_run : List ℕ → List ℕ → ℕ → Result Run
stopped_run cs bk m = then (case_for cs bk (λ C. stop_too_late when ltb C.head.last_minute m ∷ [])) (run_to m)

-- the run over the whole window
unfoldable pub whole_run : List ℕ → List ℕ → Result Run
whole_run cs bk = then (files cs bk) (λ C. run_to C.head.last_minute C)

-- the run over the whole window, of a call that names train k
unfoldable pub train_run : List ℕ → List ℕ → ℕ → Result Run
train_run cs bk k = then (case_for cs bk (λ C. no_train when no_such_train C k ∷ [])) (λ C. run_to C.head.last_minute C)

-- ---- images

-- a number in n bytes, the highest first; each that is shown so is below 256^n (`run_weighable`, `list-shown`, crate `promises`)
abbrev pub bytes : ℕ → ℕ → List ℕ
bytes zero v = []
bytes (suc n) v = v / 256 ^ n % 256 ∷ bytes n v

-- a set of delays in one byte: bit d stands for delay d
unfoldable pub set_image : List ℕ → ℕ
set_image s = sum (λ d. 2 ^ d) s

-- eight sets; a train that is not there has none
unfoldable pub cover_image : Cover → List ℕ
cover_image p = map set_image p ++ replicate (8 - length p) 0

-- an entry in 16 bytes: train, standing 1 or blocking 2, kind of place, its number, minute (2), two of 0, cover (8)
unfoldable pub row_image : Entry → List ℕ
row_image r =
    r.mark.train ∷ cond r.mark.blocks 2 1 ∷ kind_of r.mark.place ∷ number_of r.mark.place
    ∷ bytes 2 r.mark.minute ++ (0 ∷ 0 ∷ cover_image r.cover)

-- 7 by 720 weights, train by train, one a minute, in 8 bytes each: that of train k in minute t is `weight k t`
abbrev pub image_by : (ℕ → ℕ → ℕ) → List ℕ
image_by weight = each (λ k. each (λ t. bytes 8 (weight k t)) (below 720)) (below most_trains)

-- the weights that have arrived
unfoldable pub weights_image : Run → List ℕ
weights_image u = image_by (weight_at u.of u.state.arrived)

-- the bytes of the listing
unfoldable pub text_of : Run → List ℕ
text_of u = listing u.of u.state.arrived

-- ---- lent memory

-- the memory that a call is lent; a call that is lent no text has none
pub record Memory : Type 0 where
  pub rows : List ℕ
  pub weights : List ℕ
  pub text : List ℕ

-- the bytes required: 1,024 rows of 16 bytes, 5,040 weights of 8, and 32,768 of text from a call that asks for text
abbrev pub rows_bytes : ℕ
rows_bytes = 1024 * 16

abbrev pub weights_bytes : ℕ
weights_bytes = most_trains * 720 * 8

abbrev pub text_bytes : ℕ
text_bytes = 32768

-- one of the three is shorter than required, where `asked` bytes of text are
unfoldable pub short : ℕ → Memory → Bool
short asked m = ltb (length m.rows) rows_bytes || ltb (length m.weights) weights_bytes || ltb (length m.text) asked

-- the required part holds the image, and 0 where it is unused; memory past it never changes. No image is longer than required: an answered run's list has at most
-- 1,024 entries, and the text fits by `listing-suffices`, crate `out_listing`
unfoldable pub filled : ℕ → List ℕ → List ℕ → List ℕ
filled required image memory = image ++ replicate (required - length image) 0 ++ drop required memory

-- what a call comes to, and what lent memory holds then
pub record Lent (A : Type 0) : Type 0 where
  pub result : Result A
  pub memory : Memory

-- A refusal sets the required part to zero; an answer fills it. `asked` is the text required, `value` what an answered call tells, `text` what it writes as text.
abbrev pub lent : {A : Type 0} → ℕ → (Run → A) → (Run → List ℕ) → Memory → Result Run → Lent A
lent asked value text m (refused r) = record {
  result = refused r;
  memory = record { rows = filled rows_bytes [] m.rows; weights = filled weights_bytes [] m.weights; text = filled asked [] m.text };
}
lent asked value text m (answer u) = record {
  result = answer (value u);
  memory = record {
    rows = filled rows_bytes (each row_image u.state.list) m.rows;
    weights = filled weights_bytes (weights_image u) m.weights;
    text = filled asked (text u) m.text;
  };
}

-- 14 comes first, and writes nothing
abbrev pub call : {A : Type 0} → ℕ → (Run → A) → (Run → List ℕ) → Memory → Result Run → Lent A
call asked value text m r = elim (short asked m) [ true ↦ record { result = refuse (number too_short) nowhere; memory = m } | false ↦ lent asked value text m r ]

-- ---- the calls that are lent memory

-- the run to stop minute m answers the list's length
unfoldable pub run_call : List ℕ → List ℕ → ℕ → Memory → Lent ℕ
run_call cs bk m memory = call 0 (λ u. length u.state.list) (λ u. []) memory (stopped_run cs bk m)

-- the listing answers its own length
unfoldable pub listing_call : List ℕ → List ℕ → Memory → Lent ℕ
listing_call cs bk memory = call text_bytes (λ u. length (text_of u)) text_of memory (whole_run cs bk)

-- the figures of train k for a limit of L minutes
unfoldable pub figures_call : List ℕ → List ℕ → ℕ → ℕ → Memory → Lent Figures
figures_call cs bk k L memory = call 0 (λ u. figures u.of u.state.arrived k L) (λ u. []) memory (train_run cs bk k)
