-- Demands 2 and 3 about the definitions, and what an entry weighs at most, for every case that the reading accepts from bytes. Each is in the words of the demand, and its proof cites
-- the crates below: `theory_sound` (what the reading makes true), `theory_simulation` (what a choice sees), `theory_weights` (sums over choices). Assumes nothing.
use Rattle.std.specs.Prelude.{◌≡◌, List, ℕ, ◌*◌, ◌≤◌, ◌<◌}
use Rattle.rules.specs.Lists.{keep, tick, sum}
use Rattle.rules.specs.Refusals.Result.{answer}
use Rattle.rules.specs.Files.{Case, files}
use Rattle.rules.specs.Joint.{covers, choices, weight_of, weight, total, first_list, joint_rules, joint, weight_at}
use Rattle.rules.specs.Listing.{not_arrived_of}
use Rattle.rules.specs.Demands.{Choice, Simulates, arrives_in, arrives_never, run_lists}
use Rattle.theory_sound.specs.Facts.{Sound}
use Rattle.theory_sound.proofs.Accepted.{accepted-sound}
use Rattle.theory_lists.specs.Every.{Every, every_more}
use Rattle.theory_simulation.specs.Serving.{Proper}
use Rattle.theory_simulation.specs.Simulation.{Sets, joint-proper, joint-sets, simulation}
use Rattle.theory_weights.specs.Choices.{weight-covers, weight-all}
use Rattle.theory_weights.specs.Arrivals.{Seen, joint-seen, arrived-weight, arrived-later, not_arrived-weight}
use Rattle.theory_weights.specs.Most.{Light, proper-light}
use Rattle.theory_weights.proofs.Most.{lists-light}

module _ (cs bk : List ℕ) (C : Case) (accepted : files cs bk ≡ answer C) where
  case-sound : Sound C
  case-sound = accepted-sound cs bk C accepted

  -- ---- demand 3

  -- After every minute m and for every choice x: each train has exactly one standing entry that covers the choice, with the place and due minute that the
  -- single run gives it (`standing`); the blocks that cover the choice are those of the single run (`blocks`), none twice (`once`); no station or track
  -- holds more trains, standing or blocking, than its capacity (`stations`, `tracks`); and of no pair do both tracks hold a train (`pairs`, request 1 of 02).
  pub demand_3 : (x : List ℕ) → Choice C x → (m : ℕ) → Simulates C x m
  demand_3 x choice m = simulation C case-sound x choice m

  -- every cover in the list and among the arrivals has one set per train, none of them empty
  pub covers-filled : (m : ℕ) → Every (λ r. Sets C r.cover) (joint C m).list × Every (λ v. Sets C v.who.cover) (joint C m).arrived
  covers-filled m = joint-sets C case-sound m

  -- ---- demand 2

  pub seen : (m : ℕ) → Seen C m
  seen m = joint-seen C case-sound m

  -- The weight that the joint run has added for train k in minute t, t ≤ m ≤ T, is the sum of the weights of exactly those choices whose single run brings
  -- the train to its last station in that minute.
  pub demand_2 : (m : ℕ) → m ≤ C.head.last_minute → (k t : ℕ) → t ≤ m
      → weight_at C (joint C m).arrived k t ≡ sum (weight_of C) (keep (arrives_in C k t) (choices C))
  demand_2 m h k t l = arrived-weight C m (seen m) h k t l

  -- nothing has been added for a minute that the run has not reached
  pub demand_2_later : (m k t : ℕ) → m < t → weight_at C (joint C m).arrived k t ≡ 0
  demand_2_later m k t h = arrived-later C m (seen m) k t h

  -- "Not arrived", 100^n less the sum of the train's weights, is the sum over the choices that bring it there in no minute up to T.
  pub demand_2_not-arrived : (k : ℕ) → not_arrived_of C (joint C C.head.last_minute).arrived k ≡ sum (weight_of C) (keep (arrives_never C k) (choices C))
  demand_2_not-arrived k = not_arrived-weight C (seen C.head.last_minute) k case-sound

  -- an entry's weight is the sum of the weights of the choices it covers
  pub entries_weigh : (m : ℕ) → Every (λ r. weight C r.cover ≡ sum (λ x. tick (covers r.cover x) * weight_of C x) (choices C)) (joint C m).list
  entries_weigh m =
      every_more (Proper C) (λ r. weight C r.cover ≡ sum (λ x. tick (covers r.cover x) * weight_of C x) (choices C))
      (λ r part. weight-covers C r.cover part) (joint C m).list (joint-proper C case-sound m).0

  -- all choices together weigh 100^n
  pub choices_weigh : sum (weight_of C) (choices C) ≡ total C
  choices_weigh = weight-all C case-sound

  -- ---- no entry weighs more than 10^14, so that there is nothing for refusal 13, which is retired

  -- after a minute, and of those that have arrived
  pub entries-light : (m : ℕ) → Every (Light C) (joint C m).list × Every (λ v. Light C v.who) (joint C m).arrived
  entries-light m =
      let proper = joint-proper C case-sound m in (
        every_more (Proper C) (Light C) (proper-light C case-sound) (joint C m).list proper.0,
        every_more (λ v. Proper C v.who) (λ v. Light C v.who) (λ v. proper-light C case-sound v.who) (joint C m).arrived proper.1,
      )

  -- in the first list, and in the list after each asking entry was served
  pub askers-light : (m : ℕ) → Every (Every (Light C)) (run_lists C (joint_rules C) (first_list C) m)
  askers-light m = lists-light C case-sound m
