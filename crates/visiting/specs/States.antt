-- What the rows after a pass show: states from before, the new standing state, and the block. Assumes nothing.
use Rattle.std.specs.Prelude.{◌≡◌, Bool, true, false, cond, List, [], ◌∷◌, ℕ}
use Rattle.rules.specs.Lists.{one, each}
use Rattle.theory_lists.specs.Every.{Every, every_append, every_each, every_map, every_one, every_all}
use Rattle.cut.specs.Cut.{Met, cut_by, held_of}
use Rattle.rows.specs.Rows.{Row, row, held_rows, entered_rows}
use Rattle.asking.specs.declared.Job.{Job}
use Rattle.asking.specs.Ask.{asking_of, met_for}
use Rattle.serving.specs.Pass.{hold_row, covers_of, passed_of}

hold_states : (P : ℕ → Type 0) (T : List ℕ) (q : Job) (m : Met) (r : Row) → P r.state → Every (λ x. P x.state) (hold_row T q m r)
unfolding hold_row held_rows
hold_states P T q m r h = go (asking_of T q r)
  where
    go : (z : Bool) → Every (λ x. P x.state) (cond z (held_rows r.state (held_of (cut_by m r.cover))) (r ∷ []))
    go true = every_map (λ c. Unit) (λ x. P x.state) (λ c. row r.state c) (λ c u. h) (held_of (cut_by m r.cover))
        (every_all (λ c. Unit) (λ c. tt) (held_of (cut_by m r.cover)))
    go false = (h, tt)

entered_states : (P : ℕ → Type 0) (s b : ℕ) (two : Bool) (cs : List ℕ) → P s → (two ≡ true → P b) → Every (λ x. P x.state) (entered_rows s b two cs)
unfolding entered_rows
entered_states P s b two cs h k =
    every_each (λ c. Unit) (λ x. P x.state) (λ c. row s c ∷ one two (row b c)) (λ c u. (h, every_one (λ x. P x.state) two (row b c) k)) cs (every_all (λ c. Unit) (λ c. tt) cs)

-- the rows after a pass show states from before, the new standing state and, where one is left, the block
pub passed_states : (P : ℕ → Type 0) (T : List ℕ) (q : Job) (l : List Row) → P q.stands → (q.two ≡ true → P q.blocks) → Every (λ x. P x.state) l → Every (λ x. P x.state) (passed_of T q l)
unfolding passed_of
passed_states P T q l h k all =
    every_append (λ x. P x.state) (each (hold_row T q (met_for q l)) l) (entered_rows q.stands q.blocks q.two (covers_of T q l))
    (every_each (λ x. P x.state) (λ x. P x.state) (hold_row T q (met_for q l)) (λ r j. hold_states P T q (met_for q l) r j) l all)
    (entered_states P q.stands q.blocks q.two (covers_of T q l) h k)
