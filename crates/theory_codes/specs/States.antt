-- Marks as states: each field of a state stands in bits of its own, so it is that of its mark. Assumes nothing.
use Rattle.std.specs.Prelude.{◌≡◌, refl, Bool, true, false, ◌+◌, ◌*◌, ◌/◌, ◌%◌, ◌<◌, eqb}
use Rattle.std.proofs.Common.{arith}
use Rattle.rules.specs.Lists.{tick}
use Rattle.rules.specs.Turns.{Mark}
use Rattle.theory_lists.specs.Sums.{tick-le}
use Rattle.theory_codes.specs.Codes.{code_of, state_of, mark_of}
use Rattle.theory_codes.specs.Places.{Coded, coded-small, place_code}

-- a mark that a state holds
pub record Fit (m : Mark) : Type 0 where
  pub coded : Coded m.place
  pub minute : m.minute < 2048

tick-eqb : (b : Bool) → eqb (tick b) 1 ≡ b
tick-eqb true = refl
tick-eqb false = refl

module _ (m : Mark) (f : Fit m) where
  pub state-train : state_of m / 524288 ≡ m.train
  unfolding state_of
  state-train = omega (arith, tick-le m.blocks, coded-small m.place f.coded, f.minute)

  pub state-place : state_of m / 4096 % 128 ≡ code_of m.place
  unfolding state_of
  state-place = omega (arith, tick-le m.blocks, coded-small m.place f.coded, f.minute)

  pub state-way : state_of m / 4096 ≡ m.train * 128 + code_of m.place
  unfolding state_of
  state-way = omega (arith, tick-le m.blocks, coded-small m.place f.coded, f.minute)

  pub state-blocks : state_of m / 2048 % 2 ≡ tick m.blocks
  unfolding state_of
  state-blocks = omega (arith, tick-le m.blocks, coded-small m.place f.coded, f.minute)

  pub state-minute : state_of m % 2048 ≡ m.minute
  unfolding state_of
  state-minute = omega (arith, tick-le m.blocks, coded-small m.place f.coded, f.minute)

  -- the state gives its mark back
  pub mark-state : mark_of (state_of m) ≡ m
  unfolding mark_of
  mark-state = rw (state-train, state-place, state-blocks, state-minute, place_code m.place f.coded, tick-eqb m.blocks)
