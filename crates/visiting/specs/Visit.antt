-- One pass as an outcome: rows and weights, or refusal 12; and what a run notes of its rows. Assumes nothing: these are definitions.
use Rattle.std.specs.Prelude.{◌≡◌, Bool, false, cond, List, [], ◌∷◌, ℕ, ◌+◌, ◌*◌, ◌/◌, ◌%◌, ◌^◌, ◌≤◌, ◌<◌, length, take, get_or, set, ltb, eqb}
use Rattle.rules.specs.Lists.{any}
use Rattle.theory_lists.specs.Every.{Every}
use Rattle.rows.specs.Rows.{Row, rows_of, ended_of}
use Rattle.weigh.specs.Weigh.{brought_of}
use Rattle.asking.specs.declared.Job.{Job}
use Rattle.asking.specs.Ask.{due_of, asks_of, asker_of, job_of, reach_of, Mutual}
use Rattle.serving.specs.Pass.{covers_of, passed_of}
use Rattle.waiting.specs.Calm.{spot, spot_of, Calm}
use Rattle.waiting.specs.Notes.{stir_in, asked_in, told_across, told_left, fresh_of, Flagged}

-- ---- the pass

-- the rows and the weights of a run, or refusal 12
pub data Outcome : Type 0 where
  refused : Outcome
  stands : List Row → List ℕ → Outcome

-- the weights after the covers cs of the job's train entered: they are added for the minute where the train arrives
unfoldable pub arrived_of : List ℕ → Job → List ℕ → List ℕ → List ℕ
arrived_of T q [] v = v
arrived_of T q (c ∷ cs) v =
    cond (eqb q.place (get_or T (16 + q.train) 0))
    (set v (q.train * 720 + q.minute) ((get_or v (q.train * 720 + q.minute) 0 + brought_of T (c ∷ cs)) % 2 ^ 64))
    v

-- more rows than the room are refused
unfoldable pub guard : ℕ → List Row → List ℕ → Outcome
guard room l v = cond (ltb room (length l)) refused (stands l v)

-- the job of a pass over the rows l
abbrev pub job_for : List ℕ → ℕ → ℕ → ℕ → List Row → Job
job_for T t e k l = job_of T t e k (asker_of T t e k l)

-- some row asks
abbrev pub some_asks : List ℕ → ℕ → ℕ → ℕ → List Row → Bool
some_asks T t e k l = any (λ r. asks_of T t e k r.state) l

-- what a pass makes of the rows l and the weights v
abbrev pub after_pass : List ℕ → Job → List Row → List ℕ → Outcome
after_pass T q l v = guard (get_or T 3 0) (passed_of T q l) (arrived_of T q (covers_of T q l) v)

-- the pass of train k for e at t, if somebody asks
unfoldable pub pass_of : List ℕ → ℕ → ℕ → ℕ → Outcome → Outcome
pass_of T t e k refused = refused
pass_of T t e k (stands l v) = cond (some_asks T t e k l) (after_pass T (job_for T t e k l) l v) (stands l v)

-- ---- what a run notes

-- the minute of the state s is shown
unfoldable pub show_of : List ℕ → ℕ → List ℕ
show_of N s = set N (2176 + s % 4096) 1

-- rows of the state s with covers among c wait now, if they are due at t
unfoldable pub wake_of : List ℕ → ℕ → ℕ → ℕ → List ℕ → List ℕ
wake_of T t s c N = cond (due_of t s) (fresh_of N (spot_of T s) c) N

-- after the pass: its own pair has asked; the pairs of the place that was left, of its partner, and of the partner of the place that was entered are told of all
-- that moved; and the minutes of the new states are shown
unfoldable pub settled_of : List ℕ → Job → ℕ → ℕ → List ℕ → List ℕ
settled_of T q from moved N =
    let woken = wake_of T q.minute q.stands moved (set N (spot q.train q.place) 0) in
    let told = told_across T (told_left T woken from moved) q.place moved in
    show_of (show_of told q.stands) q.blocks

-- ---- contracts

-- the first w words of the lent rows, or refusal 12 where w is their length
unfoldable pub read : ℕ → List ℕ → List ℕ → Outcome
read w rows weights = cond (ltb w (length rows)) (stands (rows_of (take w rows)) weights) refused

-- the rows end with a whole row
pub record Kept (w : ℕ) (rows : List ℕ) : Type 0 where
  pub within : w ≤ length rows
  pub even : w / 2 * 2 ≡ w

-- the planned minutes fit their places, so do the codes of the next elements, an element is next from one place of a train alone, each train has a delay, and
-- partners are each other's
pub record Ways (T : List ℕ) : Type 0 where
  pub stays : (i : ℕ) → i < 1024 → get_or T (1264 + i) 0 < 1024
  pub nexts : (i : ℕ) → i < 1024 → get_or T (240 + i) 0 < 128
  pub one_place : (i j : ℕ) → i < 1024 → j < 1024 → i % 128 ≤ 65 → j % 128 ≤ 65 → i / 128 ≡ j / 128 → get_or T (240 + i) 0 ≤ 64 → get_or T (240 + i) 0 ≡ get_or T (240 + j) 0
      → i ≡ j
  pub delays : (k : ℕ) → k < get_or T 0 0 → 1 ≤ get_or T (40 + k) 0
  pub pairs : Mutual T

-- rows of trains that there can be, at places that there can be
abbrev pub Placed : List Row → Type 0
Placed l = Every (λ r. (r.state / 524288 < 8) × (r.state / 4096 % 128 ≤ 65)) l

-- the rows that ask are those that are reached from the key, a standing state of minute 0
pub record Keyed (T : List ℕ) (t e k key : ℕ) (l : List Row) : Type 0 where
  pub base : key % 4096 ≡ 0
  pub low : key < 4294967296
  pub asks : Every (λ r. asks_of T t e k r.state ≡ reach_of key t r.state) l

-- what is noted of the rows l in minute t: they are calm, their minutes are shown, and none is a block that has ended by t
pub record Noted (T : List ℕ) (t : ℕ) (N : List ℕ) (l : List Row) : Type 0 where
  pub calm : Calm T (t + 1) (stir_in N) (asked_in N) l
  pub shown : Every (λ r. get_or N (2176 + r.state % 4096) 0 ≡ 0 → ⊥) l
  pub current : Every (λ r. ended_of t r.state ≡ false) l

-- what a pass leaves: its outcome, whole rows, and what is noted of them
pub record Seen (T : List ℕ) (t : ℕ) (o : Outcome) (r : ℕ) (rows weights notes : List ℕ) : Type 0 where
  pub outcome : read r rows weights ≡ o
  pub kept : Kept r rows
  pub flagged : Flagged notes
  pub noted : r < length rows → Noted T t notes (rows_of (take r rows))
