-- The words of the three demands: a choice of delays, what it sees of the joint run, when the joint run simulates its single run, in which minute it
-- brings a train in, and the lists that a run goes through. Assumes nothing: these are definitions.
use Rattle.std.specs.Prelude.{◌≡◌, Bool, true, false, not, ◌&&◌, List, [], ◌∷◌, ◌++◌, map, ℕ, zero, suc, ◌≤◌, ◌<◌, length, ltb, eqb}
use Rattle.std.proofs.Math.Option.{Option, none, some}
use Rattle.rules.specs.Lists.{one, each, keep}
use Rattle.rules.specs.Files.{Case}
use Rattle.rules.specs.Turns.{Place, same, Mark, capacity, paired, elements, ended, asks, Arrival, arrives, State, state, Row, row, items, quiet, Visit, visiting, Turn, Rules, next, serve_next, visit, minutes}
use Rattle.rules.specs.Turns.Place.{station, track}
use Rattle.rules.specs.Turns.Turn.{nobody, somebody}
use Rattle.rules.specs.Single.{trains_on, single, arrival}
use Rattle.rules.specs.Joint.{covers, whole, Entry, joint}

-- ---- choices

-- a choice takes one delay from each train's table
abbrev pub Choice : Case → List ℕ → Type 0
Choice C x = covers (whole C) x ≡ true

-- it is minute t
abbrev pub is_in : ℕ → Option ℕ → Bool
is_in t none = false
is_in t (some u) = eqb u t

-- the choice's single run brings train k to its last station in minute t
unfoldable pub arrives_in : Case → ℕ → ℕ → List ℕ → Bool
arrives_in C k t x = is_in t (arrival C x k)

-- it is no minute
abbrev pub is_never : Option ℕ → Bool
is_never none = true
is_never (some u) = false

-- the choice's single run brings train k to its last station in no minute up to T
unfoldable pub arrives_never : Case → ℕ → List ℕ → Bool
arrives_never C k x = is_never (arrival C x k)

-- ---- what a choice sees of the joint run

-- the marks of the entries that cover the choice, in list order
unfoldable pub view : List ℕ → List Entry → List Mark
view x rs = each (λ r. one (covers r.cover x) r.mark) rs

-- the arrivals of the entries that cover the choice, in the order in which they came
unfoldable pub arrivals_seen : List ℕ → List (Arrival Entry) → List (Arrival Mark)
arrivals_seen x vs = each (λ v. one (covers v.who.cover x) (arrives v.who.mark v.minute)) vs

-- the mark is train k's, and standing
abbrev pub is_standing : ℕ → Mark → Bool
is_standing k m = eqb m.train k && not m.blocks

-- the mark is train k's, and on the place, standing or blocking
abbrev pub is_at : ℕ → Place → Mark → Bool
is_at k p m = eqb m.train k && same m.place p

-- demand 3 for a choice x, after minute m
pub record Simulates (C : Case) (x : List ℕ) (m : ℕ) : Type 0 where
  -- the marks that the choice sees are those of its single run, in list order, and so are the arrivals
  pub list : view x (joint C m).list ≡ (single C x m).list
  pub arrived : arrivals_seen x (joint C m).arrived ≡ (single C x m).arrived
  -- each train has exactly one standing entry that covers the choice, and its place and due minute are those of the single run
  pub standing : (k : ℕ) → k < length C.trains
      → (r : Entry) × (keep (λ a. covers a.cover x && is_standing k a.mark) (joint C m).list ≡ r ∷ []) × (keep (is_standing k) (single C x m).list ≡ r.mark ∷ [])
  -- the blocks that cover the choice are exactly those of the single run
  pub blocks : map (λ r. r.mark) (keep (λ r. covers r.cover x && r.mark.blocks) (joint C m).list) ≡ keep (λ a. a.blocks) (single C x m).list
  -- none twice: of the entries that cover the choice at most one is a train's on a place, standing or blocking
  pub once : (k : ℕ) (p : Place) → length (keep (λ r. covers r.cover x && is_at k p r.mark) (joint C m).list) ≤ 1
  -- no station and no track holds more trains, standing or blocking, than its capacity
  pub stations : (i : ℕ) → trains_on C (station i) (view x (joint C m).list) ≤ capacity C (station i)
  pub tracks : (j : ℕ) → trains_on C (track j) (view x (joint C m).list) ≤ capacity C (track j)
  -- no two tracks of a pair both hold a train, standing or blocking (request 1 of 02)
  pub pairs : (i j : ℕ) → paired C (track i) (track j) ≡ true → 0 < trains_on C (track i) (view x (joint C m).list) → trains_on C (track j) (view x (joint C m).list) ≡ 0

-- ---- the lists that a run goes through, step by step beside `turns`, `visit`, `minute`, `minutes` and `run_from`

-- the list has more items than the room
abbrev pub passes : {A : Type 0} → ℕ → List A → Bool
passes room l = ltb room (length l)

module _ {A : Type 0} (C : Case) (R : Rules A) where
  -- the rows after an asker a, with the rows b before it and c after it, was served
  abbrev pub rows_after : ℕ → Place → List (Row A) → List (Row A) → A → List (Row A) → List (Row A)
  rows_after t e rs b a c = let s = R.serve t e (items rs) a in b ++ quiet s.rows ++ c ++ quiet s.added

  -- the list after the next asker was served, if there is one
  abbrev pub turn_list : ℕ → Place → List (Row A) → Turn A → List (List A)
  turn_list t e rs nobody = []
  turn_list t e rs (somebody b a c) = items (rows_after t e rs b a c) ∷ []

  -- the list after each of the askers that n turns serve for e in minute t
  unfoldable pub turn_lists : ℕ → ℕ → Place → Visit A → List (List A)
  turn_lists zero t e v = []
  turn_lists (suc n) t e v = turn_list t e v.rows (next C R v.rows) ++ turn_lists n t e (serve_next C R t e v (next C R v.rows))

  -- the list after each asker for e in minute t
  unfoldable pub visit_lists : ℕ → Place → State A → List (List A)
  visit_lists t e s = turn_lists (length s.list) t e (visiting (map (λ a. row a (asks C t e (R.mark a))) s.list) s.arrived s.met)

  -- the list after each asker for one element after another
  abbrev pub visits_lists : ℕ → List Place → State A → List (List A)
  visits_lists t [] s = []
  visits_lists t (e ∷ es) s = visit_lists t e s ++ visits_lists t es (visit C R t e s)

  -- the list after each asker of minute t
  unfoldable pub minute_lists : ℕ → State A → List (List A)
  minute_lists t s = visits_lists t (elements C) (state (keep (λ a. not (ended t (R.mark a))) s.list) s.arrived s.met)

  -- the list after each asker of the first n minutes
  unfoldable pub minutes_lists : ℕ → State A → List (List A)
  minutes_lists zero s = []
  minutes_lists (suc n) s = minutes_lists n s ++ minute_lists n (minutes C R n s)

  -- the first list, and the list after each asking item was served, up to minute m
  unfoldable pub run_lists : List A → ℕ → List (List A)
  run_lists l m = l ∷ minutes_lists (suc m) (state l [] (R.check l))
