-- Who asks for an element and what a pass is for, on rows of two words and the words T that the runs look up. Assumes nothing: these are definitions.
use Rattle.std.specs.Prelude.{◌≡◌, ℕ, ◌+◌, ◌*◌, ◌/◌, ◌%◌, ◌<◌, ◌≤◌, Bool, true, false, cond, not, ◌&&◌, List, [], ◌∷◌, length, take, drop, ◌==◌, ◌≢◌, bit_and, nat_lt, slice_index, Option, MatchOption}
use Rattle.cut.specs.Cut.{full_of, Met}
use Rattle.std.proofs.Math.Seq.{slice}
use Rattle.theory_lists.specs.Every.{Every}
use Rattle.rows.specs.Rows.{Row, rows_of, row_at, met_of}
use Rattle.asking.specs.declared.Job.{Job}

-- ---- asking

-- a standing state whose due minute is at most t
unfoldable pub due_of : ℕ → ℕ → Bool
due_of t s = cond (s / 2048 % 2 == 1) false (not (nat_lt t (s % 2048)))

-- the code of a state's next element
abbrev pub next_of : List ℕ → ℕ → ℕ
next_of T s = slice_index T (240 + s / 4096)

-- a state of train k that is due at t and whose next element is e
unfoldable pub asks_of : List ℕ → ℕ → ℕ → ℕ → ℕ → Bool
asks_of T t e k s = cond (s / 524288 == k) (cond (due_of t s) (next_of T s == e) false) false

-- a state from `key` on, at most t past it: where `key` is the standing state of a train at a place for minute 0, one of theirs that is due at t
unfoldable pub reach_of : ℕ → ℕ → ℕ → Bool
reach_of key t s = cond (nat_lt s key) false (not (nat_lt (key + t) s))

-- a row that is reached and shares a choice with u
unfoldable pub stirs_of : ℕ → ℕ → ℕ → Row → Bool
stirs_of key t u r = cond (reach_of key t r.state) (full_of 8 (bit_and r.cover u)) false

-- the state of the first row that asks
unfoldable pub asker_of : List ℕ → ℕ → ℕ → ℕ → List Row → ℕ
asker_of T t e k [] = 0
asker_of T t e k (r ∷ rs) = cond (asks_of T t e k r.state) r.state (asker_of T t e k rs)

-- ---- what a pass is for

-- the capacity of e; the way out has no limit, and nothing is met there
unfoldable pub cap_of : List ℕ → ℕ → ℕ
cap_of T e = cond (nat_lt e 64) (slice_index T (176 + e)) 1

-- the code of the partner of e, 0 where it has none
abbrev pub partner_of : List ℕ → ℕ → ℕ
partner_of T e = slice_index T (2288 + e)

-- partners are elements, each is the other's, and element 0 has none
pub record Mutual (T : List ℕ) : Type 0 where
  pub alone : partner_of T 0 ≡ 0
  pub low : (e : ℕ) → e < 128 → partner_of T e < 64
  pub back : (e : ℕ) → e < 128 → (partner_of T e ≢ 0) → partner_of T (partner_of T e) ≡ e

-- who leaves the place with code p leaves a block there: with safety time 0 nobody does, and nothing outside is blocked
unfoldable pub leaves_of : ℕ → ℕ → Bool
leaves_of safety p = nat_lt 0 safety && not (p == 65)

-- minute, element and train; capacity and partner; the state of what enters, and of the block that it leaves where the asker of the state s stands
unfoldable pub job_of : List ℕ → ℕ → ℕ → ℕ → ℕ → Job
job_of T t e k s = record {
  minute = t;
  place = e;
  train = k;
  cap = cap_of T e;
  partner = partner_of T e;
  stands = k * 524288 + e * 4096 + (t + slice_index T (1264 + (k * 128 + e)));
  blocks = k * 524288 + s / 4096 % 128 * 4096 + 2048 + (t + slice_index T 2);
  two = leaves_of (slice_index T 2) (s / 4096 % 128);
}

-- the capacity and the partner that the job has are its element's
pub record Suits (T : List ℕ) (q : Job) : Type 0 where
  pub cap : q.cap ≡ cap_of T q.place
  pub partner : q.partner ≡ partner_of T q.place

-- the covers of other trains than k on the partner w of an element, 0 for none, and on an element e; nobody is met on the way out
unfoldable pub met_across : ℕ → ℕ → List Row → List ℕ
met_across w k rs = cond (w == 0) [] (met_of w k rs)

unfoldable pub met_on : ℕ → ℕ → List Row → List ℕ
met_on e k rs = cond (nat_lt e 64) (met_of e k rs) []

-- what the job's train meets
abbrev pub met_for : Job → List Row → Met
met_for q rs = record { cap = q.cap; partner = met_across q.partner q.train rs; own = met_on q.place q.train rs }

-- what train k meets that asks for e
abbrev pub met_at : List ℕ → ℕ → ℕ → List Row → Met
met_at T e k rs = record { cap = cap_of T e; partner = met_across (partner_of T e) k rs; own = met_on e k rs }

-- what is met, in lent words: the partner's covers first, so many of them, and then the element's own, as many as make n in all
pub record Gathered (m : Met) (first n : ℕ) (out : List ℕ) : Type 0 where
  pub some : first ≤ n
  pub few : n ≤ length out
  pub partner : take first out ≡ m.partner
  pub own : drop first (take n out) ≡ m.own

abbrev pub asking_of : List ℕ → Job → Row → Bool
asking_of T q r = asks_of T q.minute q.place q.train r.state

-- a row that asks and shares a choice with u
unfoldable pub stirred_of : List ℕ → Job → ℕ → Row → Bool
stirred_of T q u r = cond (asking_of T q r) (full_of 8 (bit_and r.cover u)) false

-- ---- contracts

-- the first place from which train k goes on to e, or 66 if there is none
pub record Before (T : List ℕ) (k e p : ℕ) : Type 0 where
  pub few : p ≤ 66
  pub first : (j : ℕ) → j < p → slice_index T (240 + (k * 128 + j)) ≢ e
  pub next : p < 66 → slice_index T (240 + (k * 128 + p)) ≡ e

-- what is found among the rows from i up to n: the first to which yes is said, after rows to which no is said; or no is said to each
abbrev pub Found : (Row → Bool → Type 0) → ℕ → ℕ → List ℕ → Option ℕ → Type 0
Found says i n rows r =
    MatchOption r (Every (λ x. says x false) (rows_of (slice (i * 2) (n * 2) rows)))
    (λ j. (i ≤ j) × (j < n) × Every (λ x. says x false) (rows_of (slice (i * 2) (j * 2) rows)) × says (row_at rows j) true)

-- the same, as what a search with a test of any kind finds
pub record Finds (says : Row → Bool → Type 0) (i n : ℕ) (rows : List ℕ) (r : Option ℕ) : Type 0 where
  pub found : Found says i n rows r

-- the minute, element and train of a pass
pub record Within (t e k : ℕ) : Type 0 where
  pub minute : t < 720
  pub place : e ≤ 64
  pub train : k < 8
