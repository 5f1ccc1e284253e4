-- 01, "Shift example", and 02, request 3, by which P3, P6, P7 and P8 are worked out again: the twelve points marked P, as one table of questions put to the
-- definitions, and one theorem that each is answered so. It is proved by computing from the example's bytes. Assumes nothing.
use Rattle.std.specs.Prelude.{◌≡◌, refl, List, [], ◌∷◌, map, ℕ, ◌-◌, ◌/◌, ◌%◌, length, drop, eqb}
use Rattle.std.proofs.Math.Option.{Option, none, some}
use Rattle.rules.specs.Lists.{count}
use Rattle.rules.specs.Refusals.{Result}
use Rattle.rules.specs.Refusals.Result.{refused, answer}
use Rattle.rules.specs.Files.{head_of, track_of, stop_of, train_of, pair_of, table_of, kind_of, known, in_place, lengths, most, how_many, head_rules, station_rules, unknown, leads, track_rules, path_broken, times_broken, train_rules, table_rules, body_rules, field_rules, more, end_rules, read_field, read_fields, read, tables_of, case_of, files}
use Rattle.rules.specs.Turns.{same, way, ahead, last_station, elements, capacity, names, paired, ended, asks, sooner, due_again, leaving, entered, arriving, goes_first, next, turns, visit, minute, minutes, run_from}
use Rattle.rules.specs.Single.{waits, first_marks, trains_on, partner_held, enters, serve_train, single_rules, single, arrival}
use Rattle.rules.specs.Joint.{common, without, inside, apart, outsides, choices_in, whole, weight_of, weight, total, first_list, carry, meets, meets_across, across, pieces, serve_entry, check_list, joint_rules, joint, weight_at}
use Rattle.rules.specs.Listing.{decimal, not_arrived_of, train_lines, listing}
use Rattle.rules.specs.Calls.{choice_broken, no_such_train, single_run, stopped_run, whole_run, text_of}

-- the shift example with the last minute T, the room and the second weight
unfoldable pub shift : ℕ → ℕ → ℕ → List ℕ
shift T room w =
    1 ∷ 0 ∷ 5 ∷ 0 ∷ T ∷ 1 ∷ room / 256 ∷ room % 256
    ∷ 2 ∷ 0 ∷ 1 ∷ 1
    ∷ 2 ∷ 0 ∷ 1 ∷ 1
    ∷ 3 ∷ 0 ∷ 3 ∷ 0 ∷ 1 ∷ 1
    ∷ 4 ∷ 0 ∷ 12 ∷ 1 ∷ 1 ∷ 0 ∷ 0 ∷ 2 ∷ 0 ∷ 3 ∷ 1 ∷ 0 ∷ 6 ∷ 0 ∷ 7
    ∷ 4 ∷ 0 ∷ 12 ∷ 1 ∷ 1 ∷ 0 ∷ 0 ∷ 5 ∷ 0 ∷ 8 ∷ 1 ∷ 0 ∷ 11 ∷ 0 ∷ 12
    ∷ 5 ∷ 0 ∷ 5 ∷ 1 ∷ 0 ∷ 60 ∷ 3 ∷ w ∷ []

pub data Question : Type 0 where
  arrives : List ℕ → Question  -- in which minute does the choice bring train 1 in?
  entries : ℕ → Question  -- how many entries has the list after this minute, and how many are train 1's?
  answered : List ℕ → Question  -- is the case answered?
  last_line : List ℕ → Question  -- what are the last nine bytes of the case's listing?

pub data Reply : Type 0 where
  in_minute : ℕ → Reply
  never : Reply
  counts : ℕ → ℕ → Reply
  yes : Reply
  bytes : List ℕ → Reply
  refusal : ℕ → ℕ → ℕ → Reply

abbrev pub reply : {A : Type 0} → (A → Reply) → Result A → Reply
reply f (refused r) = refusal r.number r.file r.place
reply f (answer a) = f a

abbrev pub arrived : Option ℕ → Reply
arrived none = never
arrived (some t) = in_minute t

abbrev pub ending : List ℕ → Reply
ending l = bytes (drop (length l - 9) l)

unfoldable pub ask : Question → Reply
ask (arrives x) = reply arrived (single_run (shift 20 1024 40) [] x 1)
ask (entries m) = reply (λ u. counts (length u.state.list) (count (λ r. eqb r.mark.train 1) u.state.list)) (stopped_run (shift 20 1024 40) [] m)
ask (answered c) = reply (λ u. yes) (whole_run c [])
ask (last_line c) = reply (λ u. ending (text_of u)) (whole_run c [])

pub record Point : Type 0 where
  pub question : Question
  pub answer : Reply

abbrev pub point : Question → Reply → Point
point q a = record { question = q; answer = a }

unfoldable pub points : List Point
points =
    point (arrives (0 ∷ 0 ∷ [])) (in_minute 11)  -- P1: delays of 0 and 0
    ∷ point (arrives (0 ∷ 1 ∷ [])) (in_minute 14)  -- P2: 0 and 3
    ∷ point (arrives (1 ∷ 0 ∷ [])) (in_minute 13)  -- P3: 3 and 0
    ∷ point (arrives (1 ∷ 1 ∷ [])) (in_minute 14)  -- P4: 3 and 3
    ∷ point (entries 5) (counts 5 3)  -- P5
    ∷ point (answered (shift 20 7 40)) yes  -- P6: room 7
    ∷ point (answered (shift 20 6 40)) (refusal 12 0 0)  -- P7: room 6
    ∷ point (last_line (shift 13 1024 40)) (bytes (49 ∷ 32 ∷ 45 ∷ 32 ∷ 52 ∷ 48 ∷ 48 ∷ 48 ∷ 10 ∷ []))  -- P8: T = 13 gives `1 - 4000`
    ∷ point (answered (shift 12 1024 40)) yes  -- P9: T = 12
    ∷ point (answered (shift 11 1024 40)) (refusal 9 0 37)  -- P10: T = 11
    ∷ point (answered (shift 20 1024 41)) (refusal 10 0 52)  -- P11: weights 60 and 41
    ∷ point (answered []) (refusal 5 0 0)  -- P12: the empty case
    ∷ []

pub every_point : map (λ p. ask p.question) points ≡ map (λ p. p.answer) points
unfolding points ask shift head_of track_of stop_of train_of pair_of table_of kind_of known in_place lengths most how_many head_rules station_rules unknown leads track_rules path_broken times_broken train_rules table_rules body_rules field_rules more end_rules read_field read_fields read tables_of case_of files same way ahead last_station elements capacity names paired ended asks sooner due_again leaving entered arriving goes_first next turns visit minute minutes run_from waits first_marks trains_on partner_held enters serve_train single_rules single arrival common without inside apart outsides choices_in whole weight_of weight total first_list carry meets meets_across across pieces serve_entry check_list joint_rules joint weight_at decimal not_arrived_of train_lines listing choice_broken no_such_train single_run stopped_run whole_run text_of
every_point = refl
