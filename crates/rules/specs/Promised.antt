-- The words with which the promises are stated over what an exported function returns and what lent memory holds afterwards: when a call is refused, what
-- its memory holds, and listing and figures counted over choices. Assumes nothing: these are definitions.
use Rattle.std.specs.Prelude.{◌≡◌, Bool, true, false, not, cond, List, [], ◌∷◌, ◌++◌, ℕ, ◌+◌, ◌-◌, ◌*◌, ◌^◌, ◌≤◌, ◌<◌, length, get_or, take, drop, replicate, leb, ltb, eqb}
use Rattle.std.proofs.Math.Option.{Option, none, some}
use Rattle.rules.specs.Lists.{each, keep, any, sum, product, below}
use Rattle.rules.specs.Refusals.{Refusal, Result}
use Rattle.rules.specs.Refusals.Result.{refused, answer}
use Rattle.rules.specs.Files.{most_trains, Case, files}
use Rattle.rules.specs.Single.{single, arrival}
use Rattle.rules.specs.Joint.{choices, weight_of, weight, total, first_list, joint_rules, joint}
use Rattle.rules.specs.Listing.{decimal, line, total_word, window, minute_line}
use Rattle.rules.specs.Figures.{plan, double, Figures}
use Rattle.rules.specs.Figures.Punctuality.{never, always, share}
use Rattle.rules.specs.Calls.{Memory, short}
use Rattle.rules.specs.Demands.{Choice, arrives_in, arrives_never, view, Simulates, passes, run_lists}
use Rattle.rules.specs.Decoded.{entries_in, weight_in}
use Rattle.rules.specs.Plain.{capped}

-- ---- files

-- every element is a byte
abbrev pub Bytes : List ℕ → Type 0
Bytes l = (i : ℕ) → get_or l i 0 < 256

-- ---- listing and figures, counted over choices

-- there is a minute, and it passes the test
abbrev pub passes_in : (ℕ → Bool) → Option ℕ → Bool
passes_in test none = false
passes_in test (some u) = test u

-- the choice's single run brings train k in in a minute that passes the test
unfoldable pub arrives_when : Case → ℕ → (ℕ → Bool) → List ℕ → Bool
arrives_when C k test x = passes_in test (arrival C x k)

-- what f gives for the minute, 0 if there is none
abbrev pub for_minute : (ℕ → ℕ) → Option ℕ → ℕ
for_minute f none = 0
for_minute f (some u) = f u

-- the weight of the choices that pass the test
abbrev pub weight_where : Case → (List ℕ → Bool) → ℕ
weight_where C test = sum (weight_of C) (keep test (choices C))

-- the weight of those choices whose single run brings train k to its last station in minute t
abbrev pub brought : Case → ℕ → ℕ → ℕ
brought C k t = weight_where C (arrives_in C k t)

-- the weight of those choices whose single run brings it there in no minute up to T
abbrev pub missing : Case → ℕ → ℕ
missing C k = weight_where C (arrives_never C k)

-- a line for each minute in which some choice brings the train in, and the line of those that never do
unfoldable pub counted_lines : Case → ℕ → List ℕ
counted_lines C k = each (λ t. minute_line k t (brought C k t)) (window C) ++ line (decimal k ∷ (45 ∷ []) ∷ decimal (missing C k) ∷ [])

-- the listing, with each weight counted over choices
unfoldable pub counted_listing : Case → List ℕ
counted_listing C = line (total_word ∷ decimal (total C) ∷ []) ++ each (counted_lines C) (below (length C.trains))

-- the weight of the choices that bring train k in at most L after plan, and of those that bring it in later
abbrev pub punctual : Case → ℕ → ℕ → ℕ
punctual C k L = weight_where C (arrives_when C k (λ t. leb t (plan C k + L)))

abbrev pub delayed : Case → ℕ → ℕ → ℕ
delayed C k L = weight_where C (arrives_when C k (λ t. ltb (plan C k + L) t))

-- the figures of train k for a limit of L minutes, counted over choices; to the lateness each choice adds its minutes after plan, times its weight
unfoldable pub counted_figures : Case → ℕ → ℕ → Figures
counted_figures C k L = record {
  punctuality = cond (eqb (punctual C k L) 0) never (cond (eqb (punctual C k L) (total C)) always (share (double (punctual C k L) (total C))));
  shares = record {
    on_time_of = double (punctual C k L) (total C);
    late = double (delayed C k L) (total C);
    not_arrived_of = double (missing C k) (total C);
  };
  sum = sum (λ x. for_minute (λ t. t - plan C k) (arrival C x k) * weight_of C x) (choices C);
  weight = weight_where C (λ x. not (arrives_never C k x));
}

-- ---- what decides a call

-- a refusal of a call's arguments or of its run: the file is 0 and so is the place
abbrev pub refusal_of : ℕ → Refusal
refusal_of n = record { number = n; file = 0; place = 0 }

-- the first list, or the list after some asking entry was served up to minute m, has more entries than the room
unfoldable pub full : Case → ℕ → Bool
full C m = any (passes C.head.room) (run_lists C (joint_rules C) (first_list C) m)

-- the number for which the arguments are refused, 0 if they are sound: a stop minute above T; no such train
abbrev pub late_stop : ℕ → Case → ℕ
late_stop m C = cond (ltb C.head.last_minute m) 17 0

abbrev pub missing_train : ℕ → Case → ℕ
missing_train k C = cond (leb (length C.trains) k) 16 0

-- the call is refused, with this number
abbrev pub RefusedWith : {A : Type 0} → ℕ → Result A → Type 0
RefusedWith n (refused f) = f.number ≡ n
RefusedWith n (answer a) = ⊥

-- memory suffices, the files and the arguments are sound, and the first list, or the list after some asking entry was served, has more entries than the room
pub record Full (asked : ℕ) (m : Memory) (cs bk : List ℕ) (arguments stop : Case → ℕ) : Type 0 where
  pub of : Case
  pub suffices : short asked m ≡ false
  pub accepted : files cs bk ≡ answer of
  pub sound : arguments of ≡ 0
  pub passed : full of (stop of) ≡ true

-- ---- what a call comes to

-- What decides: whether lent memory lacks bytes; the files; the number for which the arguments are refused, 0 for none; the minute `stop` to which the run goes.
-- S is what is promised of a call that lacks memory, R of one that is refused, A of one that is answered.
pub data Outcome (cs bk : List ℕ) (lacks : Bool) (arguments stop : Case → ℕ) (S : Type 0) (R : Refusal → Type 0) (A : Case → Type 0) : Type 0 where
  -- 14, before all others
  lacks_memory : lacks ≡ true → S → Outcome cs bk lacks arguments stop S R A
  -- the first refusal of the files
  refuses_files : lacks ≡ false → (f : Refusal) → files cs bk ≡ refused f → R f → Outcome cs bk lacks arguments stop S R A
  -- then that of the arguments
  refuses_arguments : lacks ≡ false → (C : Case) → files cs bk ≡ answer C → 1 ≤ arguments C → R (refusal_of (arguments C)) → Outcome cs bk lacks arguments stop S R A
  -- then 12, if the first list or the list after some asking entry was served has more entries than the room
  refuses_room : lacks ≡ false → (C : Case) → files cs bk ≡ answer C → arguments C ≡ 0 → full C (stop C) ≡ true → R (refusal_of 12)
      → Outcome cs bk lacks arguments stop S R A
  -- otherwise it is answered
  answers : lacks ≡ false → (C : Case) → files cs bk ≡ answer C → arguments C ≡ 0 → full C (stop C) ≡ false → A C → Outcome cs bk lacks arguments stop S R A

-- a call that is answered: the files and the arguments are sound, the room suffices, and A is what is promised of the case
pub record Answers (cs bk : List ℕ) (arguments stop : Case → ℕ) (A : Case → Type 0) : Type 0 where
  pub of : Case
  pub accepted : files cs bk ≡ answer of
  pub sound : arguments of ≡ 0
  pub fits : full of (stop of) ≡ false
  pub said : A of

-- ---- lent memory

-- the n bytes required are 0, and what is past them is as it was
pub record Cleared (n : ℕ) (before after : List ℕ) : Type 0 where
  pub zeros : take n after ≡ replicate n 0
  pub past : drop n after ≡ drop n before

-- the n bytes required begin with m bytes that are used; the others of them are 0, and what is past them is as it was
pub record Unused (n m : ℕ) (before after : List ℕ) : Type 0 where
  pub zeros : take (n - m) (drop m after) ≡ replicate (n - m) 0
  pub past : drop n after ≡ drop n before

-- what rows and weights hold after an answered run of case C to minute m, whose list has n entries
pub record Meant (C : Case) (m n : ℕ) (rows weights rows' weights' : List ℕ) : Type 0 where
  -- the first n rows stand for the list of the joint run
  pub entries : entries_in n rows' ≡ (joint C m).list
  -- demand 3: what a choice sees in these rows is its single run, mark by mark, in order
  pub seen : (x : List ℕ) → Choice C x → view x (entries_in n rows') ≡ (single C x m).list
  -- and so after every minute up to m: trains and due minutes, blocks, none twice, within capacities
  pub simulates : (x : List ℕ) → Choice C x → (t : ℕ) → t ≤ m → Simulates C x t
  -- the list has no more entries than the room, and no entry weighs more than 10^14
  pub fits : n ≤ C.head.room
  pub light : any (λ r. ltb (10 ^ 14) (weight C r.cover)) (entries_in n rows') ≡ false
  pub rows_unused : Unused 16384 (n * 16) rows rows'
  -- demand 2: the weight of train k in minute t is that of exactly the choices whose single run brings the train to its last station in that minute
  pub weighs : (k t : ℕ) → k < most_trains → t ≤ m → weight_in weights' k t ≡ brought C k t
  -- and 0 in the minutes after m
  pub later : (k t : ℕ) → k < most_trains → m < t → t < 720 → weight_in weights' k t ≡ 0
  pub weights_past : drop 40320 weights' ≡ drop 40320 weights

-- the text lent begins with these bytes, and the rest of the bytes required is unused
pub record TextMeant (printed text text' : List ℕ) : Type 0 where
  pub starts : take (length printed) text' ≡ printed
  pub unused : Unused 32768 (length printed) text text'

-- ---- the plain engine (request 2 of 02)

-- the product, over the trains, of the sizes of their tables
unfoldable pub combinations : Case → ℕ
combinations C = product (λ k. length (get_or C.tables k [])) (below (length C.trains))

-- the weight of those of these choices whose single run brings train k to its last station in minute t
abbrev pub brought_of : Case → List (List ℕ) → ℕ → ℕ → ℕ
brought_of C xs k t = sum (weight_of C) (keep (arrives_in C k t) xs)

-- What the two plain calls come to: as `Outcome`, but there is no refusal for room. S is promised of a call that lacks memory, R of one that is refused, A of one that
-- is answered.
pub data PlainOutcome (cs bk : List ℕ) (m : ℕ) (weights : List ℕ) (S : Type 0) (R : Refusal → Type 0) (A : Case → Type 0) : Type 0 where
  -- 14, before all others
  lacks_memory : length weights < 40320 → S → PlainOutcome cs bk m weights S R A
  -- the first refusal of the files
  refuses_files : 40320 ≤ length weights → (f : Refusal) → files cs bk ≡ refused f → R f → PlainOutcome cs bk m weights S R A
  -- 17: the stop minute is above T
  refuses_stop : 40320 ≤ length weights → (C : Case) → files cs bk ≡ answer C → C.head.last_minute < m → R (refusal_of 17) → PlainOutcome cs bk m weights S R A
  -- otherwise it is answered, whatever the room
  answers : 40320 ≤ length weights → (C : Case) → files cs bk ≡ answer C → m ≤ C.head.last_minute → A C → PlainOutcome cs bk m weights S R A

-- what the weights hold after every choice of case C was run by itself to minute m
pub record Weighed (C : Case) (m : ℕ) (weights weights' : List ℕ) : Type 0 where
  -- demand 2: the weight of exactly the choices whose single run brings train k to its last station in minute t
  pub weighs : (k t : ℕ) → k < most_trains → t ≤ m → weight_in weights' k t ≡ brought C k t
  -- and 0 in the minutes after m
  pub later : (k t : ℕ) → k < most_trains → m < t → t < 720 → weight_in weights' k t ≡ 0
  pub past : drop 40320 weights' ≡ drop 40320 weights

-- what they hold after the choices xs were run by themselves to minute m and added to weights as they were lent
pub record Added (C : Case) (m : ℕ) (xs : List (List ℕ)) (weights weights' : List ℕ) : Type 0 where
  -- the sum over the choices of the part, added; a sum that passes 2^64 − 1 is 2^64 − 1
  pub weighs : (k t : ℕ) → k < most_trains → t ≤ m → weight_in weights' k t ≡ capped (weight_in weights k t + brought_of C xs k t)
  -- nothing is added in the minutes after m
  pub later : (k t : ℕ) → k < most_trains → m < t → t < 720 → weight_in weights' k t ≡ weight_in weights k t
  pub past : drop 40320 weights' ≡ drop 40320 weights
