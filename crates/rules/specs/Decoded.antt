-- What the bytes of an image say: the number, the set of delays, the cover, the entry and the weight that they stand for. Assumes nothing: these are definitions.
use Rattle.std.specs.Prelude.{cond, List, [], ◌∷◌, ◌++◌, ℕ, zero, suc, ◌+◌, ◌*◌, ◌/◌, ◌%◌, ◌^◌, length, get_or, take, drop, eqb}
use Rattle.rules.specs.Lists.{one}
use Rattle.rules.specs.Turns.{Place}
use Rattle.rules.specs.Turns.Place.{outside, station, track, gone}
use Rattle.rules.specs.Joint.{Cover, Entry, entry}

-- the number that bytes stand for, the highest first
abbrev pub number_in : List ℕ → ℕ
number_in [] = 0
number_in (b ∷ l) = b * 256 ^ length l + number_in l

-- the delays that n bits stand for, the lowest that of delay k
abbrev pub delays_in : ℕ → ℕ → ℕ → List ℕ
delays_in zero k v = []
delays_in (suc n) k v = one (eqb (v % 2) 1) k ++ delays_in n (suc k) (v / 2)

-- the sets of the trains, a byte each, up to the first that is 0: of a train that is not there
abbrev pub cover_in : List ℕ → Cover
cover_in [] = []
cover_in (b ∷ l) = cond (eqb b 0) [] (delays_in 8 0 b ∷ cover_in l)

-- the place of a kind with a number
abbrev pub place_in : ℕ → ℕ → Place
place_in kind number = cond (eqb kind 0) outside (cond (eqb kind 1) (station number) (cond (eqb kind 2) (track number) gone))

-- the entry that 16 bytes stand for
unfoldable pub entry_in : List ℕ → Entry
entry_in l =
    entry
    (record {
      train = get_or l 0 0;
      place = place_in (get_or l 2 0) (get_or l 3 0);
      blocks = eqb (get_or l 1 0) 2;
      minute = number_in (take 2 (drop 4 l));
    })
    (cover_in (drop 8 l))

-- the entries that the first n rows of 16 bytes stand for
abbrev pub entries_in : ℕ → List ℕ → List Entry
entries_in zero l = []
entries_in (suc n) l = entry_in (take 16 l) ∷ entries_in n (drop 16 l)

-- the weight of train k in minute t: the number in the 8 bytes at (k · 720 + t) · 8
unfoldable pub weight_in : List ℕ → ℕ → ℕ → ℕ
weight_in l k t = number_in (take 8 (drop ((k * 720 + t) * 8) l))
