-- What the calls answer, as numbers: 01's refusal, file and place, and what stands for a value, for no minute, for each case of punctuality and for a field.
-- Where 01 leaves a number open it is fixed here and in docs/FORMATS.md. Assumes nothing: these are definitions.
use Rattle.std.specs.Prelude.{false, ℕ, pos, Float}
use Rattle.std.proofs.Math.Option.{Option, none, some}
use Rattle.std.specs.Float.{fin}
use Rattle.rules.specs.Refusals.{Refusal, Result}
use Rattle.rules.specs.Refusals.Result.{refused, answer}
use Rattle.rules.specs.Viewer.{View, refusal_of, next_place}
use Rattle.rules.specs.Viewer.View.{field, ended, overruns}
use Rattle.rules.specs.Figures.{Punctuality, Figures}
use Rattle.rules.specs.Figures.Punctuality.{never, always, share}

-- ---- the single run, the run and the listing

-- an answer: the refusal's number, file and place, all 0 if the call was answered, and the value, 0 if it was refused
pub record Answer : Type 0 where
  pub refusal : ℕ
  pub file : ℕ
  pub place : ℕ
  pub value : ℕ

abbrev pub refused_with : Refusal → Answer
refused_with r = record { refusal = r.number; file = r.file; place = r.place; value = 0 }

abbrev pub answered : ℕ → Answer
answered v = record { refusal = 0; file = 0; place = 0; value = v }

-- the run answers its list's length, the listing its own
abbrev pub number_answer : Result ℕ → Answer
number_answer (refused r) = refused_with r
number_answer (answer v) = answered v

-- the single run answers the minute of arrival, and 65,535, which is past every window, for none by T
abbrev pub minute_number : Option ℕ → ℕ
minute_number none = 65535
minute_number (some t) = t

abbrev pub minute_answer : Result (Option ℕ) → Answer
minute_answer (refused r) = refused_with r
minute_answer (answer o) = answered (minute_number o)

-- ---- the figures

-- the double 0
abbrev pub no_share : Float
no_share = fin false 0 (pos 0)

-- the number of each case of punctuality: 0 of a refused call, 1 never, 2 always, 3 a share
abbrev pub punctuality_number : Option Punctuality → ℕ
punctuality_number none = 0
punctuality_number (some never) = 1
punctuality_number (some always) = 2
punctuality_number (some (share x)) = 3

-- its value: the share, and 0 where there is none
abbrev pub punctuality_value : Option Punctuality → Float
punctuality_value none = no_share
punctuality_value (some never) = no_share
punctuality_value (some always) = no_share
punctuality_value (some (share x)) = x

-- the refusal as in every answer; punctuality's number and value, the three shares, and the lateness as sum and weight
pub record FiguresAnswer : Type 0 where
  pub refusal : ℕ
  pub file : ℕ
  pub place : ℕ
  pub punctuality : ℕ
  pub share : Float
  pub on_time_of : Float
  pub late : Float
  pub not_arrived_of : Float
  pub lateness : ℕ
  pub arrived : ℕ

-- the figures of a refused call are all 0
abbrev pub figures_answer : Result Figures → FiguresAnswer
figures_answer (refused r) = record {
  refusal = r.number;
  file = r.file;
  place = r.place;
  punctuality = punctuality_number none;
  share = punctuality_value none;
  on_time_of = no_share;
  late = no_share;
  not_arrived_of = no_share;
  lateness = 0;
  arrived = 0;
}
figures_answer (answer f) = record {
  refusal = 0;
  file = 0;
  place = 0;
  punctuality = punctuality_number (some f.punctuality);
  share = punctuality_value (some f.punctuality);
  on_time_of = f.shares.on_time_of;
  late = f.shares.late;
  not_arrived_of = f.shares.not_arrived_of;
  lateness = f.sum;
  arrived = f.weight;
}

-- ---- the field viewer

-- the viewer's refusal, 0 if none; 1 if a field was given, else 0; the field's tag and its body's length, 0 if none was given; and the viewer's place then
pub record ViewAnswer : Type 0 where
  pub refusal : ℕ
  pub given : ℕ
  pub tag : ℕ
  pub size : ℕ
  pub next : ℕ

-- the answer of a viewer that stood at i, by what it gives there
abbrev pub view_answer : ℕ → View → ViewAnswer
view_answer i (field tag size end) = record {
  refusal = refusal_of (field tag size end);
  given = 1;
  tag = tag;
  size = size;
  next = next_place i (field tag size end);
}
view_answer i ended = record { refusal = refusal_of ended; given = 0; tag = 0; size = 0; next = next_place i ended }
view_answer i overruns = record { refusal = refusal_of overruns; given = 0; tag = 0; size = 0; next = next_place i overruns }
