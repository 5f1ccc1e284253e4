-- Lent memory: what each of the three outcomes of a call leaves in it. The definition of a call is taken apart by the test for 14 and by the result.
-- Assumes nothing.
use Rattle.std.specs.Prelude.{◌≡◌, Bool, true, false, List, [], ℕ}
use Rattle.std.proofs.Common.{ap, ◌∙◌}
use Rattle.rules.specs.Lists.{each}
use Rattle.rules.specs.Refusals.{number, Refusal, nowhere, Result, refuse}
use Rattle.rules.specs.Refusals.Fault.{too_short}
use Rattle.rules.specs.Refusals.Result.{refused, answer}
use Rattle.rules.specs.Calls.{Run, Memory, rows_bytes, weights_bytes, short, filled, row_image, weights_image, Lent, lent, call}

abbrev pub memory : List ℕ → List ℕ → List ℕ → Memory
memory r w t = record { rows = r; weights = w; text = t }

-- every byte of the required parts is 0, and what is past them is as it was
abbrev pub cleared : ℕ → Memory → Memory
cleared asked m = memory (filled rows_bytes [] m.rows) (filled weights_bytes [] m.weights) (filled asked [] m.text)

-- the rows, weights and text of a run, 0 where they are unused, and what is past the required parts as it was
abbrev pub written : ℕ → (Run → List ℕ) → Run → Memory → Memory
written asked text u m = memory (filled rows_bytes (each row_image u.state.list) m.rows) (filled weights_bytes (weights_image u) m.weights) (filled asked (text u) m.text)

module _ {A : Type 0} (asked : ℕ) (value : Run → A) (text : Run → List ℕ) (m : Memory) where
  -- 14 comes first, and writes nothing
  pub call-short : (r : Result Run) → short asked m ≡ true → call asked value text m r ≡ record { result = refuse (number too_short) nowhere; memory = m }
  call-short r h = ap pick h
    where
      pick : Bool → Lent A
      pick b = elim b [ true ↦ record { result = refuse (number too_short) nowhere; memory = m } | false ↦ lent asked value text m r ]

  call_long : (r : Result Run) → short asked m ≡ false → call asked value text m r ≡ lent asked value text m r
  call_long r h = ap pick h
    where
      pick : Bool → Lent A
      pick b = elim b [ true ↦ record { result = refuse (number too_short) nowhere; memory = m } | false ↦ lent asked value text m r ]

  -- any other refusal is handed on, and clears the required parts
  pub call-refused : (r : Result Run) (f : Refusal) → short asked m ≡ false → r ≡ refused f → call asked value text m r ≡ record { result = refused f; memory = cleared asked m }
  call-refused r f h e = call_long r h ∙ ap (lent asked value text m) e

  -- an answer fills them
  pub call-answered : (r : Result Run) (u : Run) → short asked m ≡ false → r ≡ answer u → call asked value text m r ≡ record { result = answer (value u); memory = written asked text u m }
  call-answered r u h e = call_long r h ∙ ap (lent asked value text m) e
