-- What a state that asks shows. Assumes nothing.
use Rattle.std.specs.Prelude.{◌≡◌, ℕ, ◌/◌, Bool, true, false, cond, List, ◌==◌, refl}
use Rattle.std.proofs.lemmas.Bool.{false≢true}
use Rattle.std.proofs.Common.{eqb-true}
use Rattle.asking.specs.Ask.{due_of, next_of, asks_of}

-- what a state that asks shows
pub record Asking (T : List ℕ) (t e k s : ℕ) : Type 0 where
  pub train : s / 524288 ≡ k
  pub due : due_of t s ≡ true
  pub next : next_of T s ≡ e

pub asking : (T : List ℕ) (t e k s : ℕ) → asks_of T t e k s ≡ true → Asking T t e k s
unfolding asks_of
asking T t e k s h = go (s / 524288 == k) (due_of t s) (next_of T s == e) refl refl refl h
  where
    go : (x y z : Bool) → (s / 524288 == k) ≡ x → due_of t s ≡ y → (next_of T s == e) ≡ z → cond x (cond y z false) false ≡ true → Asking T t e k s
    go true true true f g j q = record { train = eqb-true (s / 524288) k f; due = g; next = eqb-true (next_of T s) e j }
    go true true false f g j q = absurd (false≢true q)
    go true false z f g j q = absurd (false≢true q)
    go false y z f g j q = absurd (false≢true q)
