-- An asker stands on an element before the one it asks for. The law follows the cases of the definition. Assumes nothing.
use Rattle.std.specs.Prelude.{◌≡◌, refl, Bool, true, false, not, ◌&&◌, ℕ, ◌≤◌, leb}
use Rattle.std.proofs.lemmas.Bool.{false≢true}
use Rattle.std.proofs.Common.{leb-true}
use Rattle.rules.specs.Files.{Case}
use Rattle.rules.specs.Turns.{Place, Mark, head_is, ahead, asks}

-- what an asker is
pub record Asked (C : Case) (t : ℕ) (e : Place) (m : Mark) : Type 0 where
  pub stood : m.blocks ≡ false
  pub goes : head_is e (ahead C m.train m.place) ≡ true
  pub due : m.minute ≤ t

pub asked : (C : Case) (t : ℕ) (e : Place) (m : Mark) → asks C t e m ≡ true → Asked C t e m
unfolding asks
asked C t e m h = go m.blocks (head_is e (ahead C m.train m.place)) (leb m.minute t) refl refl refl h
  where
    go : (a b c : Bool) → m.blocks ≡ a → head_is e (ahead C m.train m.place) ≡ b → leb m.minute t ≡ c → (not a && b && c) ≡ true → Asked C t e m
    go false true true p q r h = record { stood = p; goes = q; due = leb-true m.minute t r }
    go false true false p q r h = absurd (false≢true h)
    go false false c p q r h = absurd (false≢true h)
    go true b c p q r h = absurd (false≢true h)
