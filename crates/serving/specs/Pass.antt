-- One pass of a train for an element, on rows of two words and the words T that the runs look up. Assumes nothing: these are definitions.
use Rattle.std.specs.Prelude.{◌≡◌, Bool, cond, List, [], ◌∷◌, ◌++◌, ℕ, ◌+◌, ◌*◌, ◌/◌, min, ◌≤◌, ◌<◌, length, take, drop, get_or, eqb}
use Rattle.std.proofs.lemmas.List.Edits.{sets}
use Rattle.std.specs.Int.Bits.{bit_or}
use Rattle.rules.specs.Lists.{each}
use Rattle.cut.specs.Cut.{Met, cut_by, held_of, entering_of}
use Rattle.theory_lists.specs.Writes.{Put}
use Rattle.rows.specs.Rows.{Row, words, held_rows, entered_rows}
use Rattle.quiet.specs.Parts.{Sub}
use Rattle.asking.specs.declared.Job.{Job}
use Rattle.asking.specs.Ask.{met_for, asking_of, stirred_of}
use Rattle.serving.specs.declared.Ends.{Ends}
use Rattle.serving.specs.declared.Bench.{Bench}

-- ---- the pass

-- what becomes of a row in its place, where the test says which rows are served
abbrev pub hold_by : (Row → Bool) → Met → Row → List Row
hold_by test m r = cond (test r) (held_rows r.state (held_of (cut_by m r.cover))) (r ∷ [])

-- the covers of a row that enter
abbrev pub enter_by : (Row → Bool) → Met → Row → List ℕ
enter_by test m r = cond (test r) (entering_of (cut_by m r.cover)) []

-- all covers that enter, and the rows after the pass: held pieces in their row's place, and what entered at the end
abbrev pub covers_by : (Row → Bool) → Job → List Row → List ℕ
covers_by test q l = each (enter_by test (met_for q l)) l

abbrev pub pass_by : (Row → Bool) → Job → List Row → List Row
pass_by test q l = each (hold_by test (met_for q l)) l ++ entered_rows q.stands q.blocks q.two (covers_by test q l)

-- the same where each row that asks is served
unfoldable pub hold_row : List ℕ → Job → Met → Row → List Row
hold_row T q m r = hold_by (asking_of T q) m r

unfoldable pub enter_row : List ℕ → Job → Met → Row → List ℕ
enter_row T q m r = enter_by (asking_of T q) m r

-- all covers that enter
unfoldable pub covers_of : List ℕ → Job → List Row → List ℕ
covers_of T q rs = each (enter_row T q (met_for q rs)) rs

-- the rows after the pass: held pieces in the asker's place, and what entered at the end
unfoldable pub passed_of : List ℕ → Job → List Row → List Row
passed_of T q rs = each (hold_row T q (met_for q rs)) rs ++ entered_rows q.stands q.blocks q.two (covers_of T q rs)

-- the same where only rows that share a choice with u are served
abbrev pub hold_stirred : List ℕ → Job → ℕ → Met → Row → List Row
hold_stirred T q u m r = hold_by (stirred_of T q u) m r

abbrev pub enter_stirred : List ℕ → Job → ℕ → Met → Row → List ℕ
enter_stirred T q u m r = enter_by (stirred_of T q u) m r

unfoldable pub stirred_covers : List ℕ → Job → ℕ → List Row → List ℕ
stirred_covers T q u l = each (enter_stirred T q u (met_for q l)) l

unfoldable pub stirred_pass : List ℕ → Job → ℕ → List Row → List Row
stirred_pass T q u l = each (hold_stirred T q u (met_for q l)) l ++ entered_rows q.stands q.blocks q.two (stirred_covers T q u l)

-- ---- contracts

-- what is met, as it stands in lent words: the partner's covers are the first of them
abbrev pub met_in : ℕ → ℕ → List ℕ → Met
met_in cap first met = record { cap = cap; partner = take first met; own = drop first met }

-- all that moved, where m moved before: with the cover c, unless its only piece is held and is c itself; h pieces are held, the first of them x
unfoldable pub moved_of : ℕ → ℕ → ℕ → ℕ → ℕ → ℕ
moved_of h x entered c m = cond (eqb h 1) (cond (eqb entered 0) (cond (eqb x c) m (bit_or m c)) (bit_or m c)) (bit_or m c)

-- the cover c whose held pieces are hs, of which so many entered: it is held as it is, or among all that moved
pub data Stays (hs : List ℕ) (entered c moved : ℕ) : Type 0 where
  whole : hs ≡ c ∷ [] → entered ≡ 0 → Stays hs entered c moved
  moved_on : Sub c moved → Stays hs entered c moved

-- a row that is as it was, and of which nothing enters; or its cover is among all that moved
pub data Went (hold : List Row) (enter : List ℕ) (moved : ℕ) (r : Row) : Type 0 where
  as_it_is : hold ≡ r ∷ [] → enter ≡ [] → Went hold enter moved r
  moves : Sub r.cover moved → Went hold enter moved r

-- the covers A are written from the place a on, and z is the next place
pub record Came (entering : List ℕ) (a : ℕ) (A : List ℕ) (z : ℕ) (entering' : List ℕ) : Type 0 where
  pub place : z ≡ a + length A
  pub list : entering' ≡ sets entering a A

-- the words H are written to the rows and the covers A to those that enter; or the two together leave no place in the lent rows
pub data Two (rows : List ℕ) (d : ℕ) (H : List ℕ) (r : ℕ) (rows' : List ℕ) (entering : List ℕ) (a : ℕ) (A : List ℕ) (z : ℕ) (entering' : List ℕ) : Type 0 where
  fits : r < length rows → z * 2 ≤ length rows → Put rows d H r rows' → Came entering a A z entering' → Two rows d H r rows' entering a A z entering'
  over : r ≡ length rows → z * 2 ≤ length rows → length rows ≤ d + length H + (a + length A) * 2 → length rows' ≡ length rows
      → length entering' ≡ length entering → Two rows d H r rows' entering a A z entering'

-- the rows L and the covers A that entered, where the rows leave a place in the lent ones
pub record Passed (L : List Row) (A : List ℕ) (r : Ends) (rows entering : List ℕ) : Type 0 where
  pub place : r.place ≡ min (length L * 2) (length rows)
  pub list : r.place < length rows → take r.place rows ≡ words L
  pub few : r.entering ≤ length entering
  pub covers : r.place < length rows → take r.entering entering ≡ A

-- lent memory that is long enough for a pass
pub record Space (rows tmp met held entering : List ℕ) : Type 0 where
  pub some : 2 ≤ length rows
  pub even : length rows / 2 * 2 ≡ length rows
  pub tmp_long : length rows ≤ length tmp
  pub met_long : length rows ≤ length met
  pub held_long : length rows ≤ length held * 2
  pub entering_long : length rows ≤ length entering * 2

-- the lent memory: rows for one more than the room, a copy of them, the covers met, and held and entering pieces
pub record Lent (T rows tmp met held entering : List ℕ) : Type 0 where
  pub rows_are : length rows ≡ get_or T 3 0 * 2 + 2
  pub tmp_long : length rows ≤ length tmp
  pub met_long : length rows ≤ length met
  pub held_long : length rows ≤ length held * 2
  pub entering_long : length rows ≤ length entering * 2

-- the same of what lies on the bench
abbrev pub Roomy : List ℕ → Bench → Type 0
Roomy rows b = Space rows b.rows.now b.met.now b.held.now b.entering.now

abbrev pub Lends : List ℕ → List ℕ → Bench → Type 0
Lends T rows b = Lent T rows b.rows.now b.met.now b.held.now b.entering.now

-- the bench still lends the same memory
pub record Keeps (was now : Bench) : Type 0 where
  pub rows : now.rows.ghost_name ≡ was.rows.ghost_name
  pub met : now.met.ghost_name ≡ was.met.ghost_name
  pub held : now.held.ghost_name ≡ was.held.ghost_name
  pub entering : now.entering.ghost_name ≡ was.entering.ghost_name
  pub rows_long : length now.rows.now ≡ length was.rows.now
  pub met_long : length now.met.now ≡ length was.met.now
  pub held_long : length now.held.now ≡ length was.held.now
  pub entering_long : length now.entering.now ≡ length was.entering.now
