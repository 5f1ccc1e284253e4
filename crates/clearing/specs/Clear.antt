-- The start of a minute, and what is noted then. Assumes nothing: these are definitions.
use Rattle.std.specs.Prelude.{◌≡◌, true, false, cond, List, ℕ, ◌+◌, ◌/◌, ◌%◌, ◌≤◌, ◌<◌, take, get_or, eqb}
use Rattle.theory_lists.specs.Every.{Every}
use Rattle.rows.specs.Rows.{Row, rows_of, ended_of, swept_of}
use Rattle.quiet.specs.Parts.{Sub}
use Rattle.waiting.specs.Calm.{waits_of, spot, spot_of, Calm, Meets, Told}
use Rattle.waiting.specs.Notes.{stir_in, asked_in, told_left, Flagged, Grows}
use Rattle.visiting.specs.Visit.{wake_of, Kept}

-- what is noted where the row of the state s with the cover c goes, if it is a block that has ended by t
unfoldable pub left_of : List ℕ → ℕ → ℕ → ℕ → List ℕ → List ℕ
left_of T t s c N = cond (ended_of t s) (told_left T N (s / 4096 % 128) c) N

-- what is noted where it is due at t
unfoldable pub marked_of : List ℕ → ℕ → ℕ → ℕ → List ℕ → List ℕ
marked_of T t s c N = cond (eqb (s % 4096) t) (wake_of T t s c N) N

-- ---- contracts

-- the pairs of all trains that meet a block that goes know of it
abbrev pub Known : List ℕ → ℕ → List ℕ → Row → Type 0
Known T t M r = ended_of t r.state ≡ true → (k e : ℕ) → k < 8 → e < 128 → Meets T e (r.state / 4096 % 128) → Told (stir_in M) (asked_in M) (spot k e) r.cover

pub record Leaves (T : List ℕ) (t : ℕ) (l : List Row) (N M : List ℕ) : Type 0 where
  pub grows : Grows N M
  pub flagged : Flagged M
  pub asked : (i : ℕ) → asked_in M i ≡ asked_in N i
  pub known : Every (Known T t M) l

-- the pair of a row that is due at t knows of it
abbrev pub Heard : List ℕ → ℕ → List ℕ → Row → Type 0
Heard T t M r = waits_of t r.state ≡ false → waits_of (t + 1) r.state ≡ true → (asked_in M (spot_of T r.state) ≡ 0 → ⊥) × Sub r.cover (stir_in M (spot_of T r.state))

pub record Marks (T : List ℕ) (t : ℕ) (l : List Row) (N M : List ℕ) : Type 0 where
  pub grows : Grows N M
  pub flagged : Flagged M
  pub heard : Every (Heard T t M) l

-- the minute of a row is shown
abbrev pub Shown : List ℕ → Row → Type 0
Shown N r = get_or N (2176 + r.state % 4096) 0 ≡ 0 → ⊥

-- what is noted of the rows before minute t: they are calm, their minutes are shown, and a block that has ended by t ends at t
pub record Due (T : List ℕ) (t : ℕ) (N : List ℕ) (l : List Row) : Type 0 where
  pub calm : Calm T t (stir_in N) (asked_in N) l
  pub shown : Every (Shown N) l
  pub last : Every (λ r. ended_of t r.state ≡ true → r.state % 4096 ≡ 2048 + t) l

-- the rows that stay are the first r words, and what is noted is noted of them
pub record Cleared (T : List ℕ) (t : ℕ) (l : List Row) (w r : ℕ) (rows M : List ℕ) : Type 0 where
  pub less : r ≤ w
  pub kept : Kept r rows
  pub list : rows_of (take r rows) ≡ swept_of t l
  pub flagged : Flagged M
  pub due : Due T t M (swept_of t l)

-- the minutes of all rows are shown
pub record Enrols (l : List Row) (M : List ℕ) : Type 0 where
  pub flagged : Flagged M
  pub shown : Every (Shown M) l
