-- Places and marks as numbers, as the runs hold them: a place in 7 bits, a mark in one word. Assumes nothing: these are definitions.
use Rattle.std.specs.Prelude.{cond, ℕ, ◌+◌, ◌-◌, ◌*◌, ◌/◌, ◌%◌, ltb, eqb}
use Rattle.rules.specs.Lists.{tick}
use Rattle.rules.specs.Turns.{Place, Mark}
use Rattle.rules.specs.Turns.Place.{outside, station, track, gone}

-- stations from 0 on, tracks from 24 on, the way out at 64, outside at 65: elements in the order in which they are visited
abbrev pub code_of : Place → ℕ
code_of (station i) = i
code_of (track j) = 24 + j
code_of gone = 64
code_of outside = 65

-- no place has this code
abbrev pub nowhere : ℕ
nowhere = 127

unfoldable pub place_of : ℕ → Place
place_of p = cond (ltb p 24) (station p) (cond (ltb p 64) (track (p - 24)) (cond (eqb p 64) gone outside))

-- minute, whether it blocks, place and train, from the lowest bits up
unfoldable pub state_of : Mark → ℕ
state_of m = m.minute + 2048 * tick m.blocks + 4096 * code_of m.place + 524288 * m.train

unfoldable pub mark_of : ℕ → Mark
mark_of s = record { train = s / 524288; place = place_of (s / 4096 % 128); blocks = eqb (s / 2048 % 2) 1; minute = s % 2048 }
