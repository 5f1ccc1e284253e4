-- `out_rows::cover_bytes` meets its contract: the sets of the first trains, at most eight, and then zeros. Assumes nothing.
use Rattle.std.proofs.Common.{◌≡◌, ℕ, zero, true, ◌<◌, suc, ◌-◌, min, ◌/◌, ◌%◌, List, [], ◌∷◌, length, take, drop, arith}
use lib.Dec.{ltb}
use borrow.Author.Tests.{lt-ltb}
use borrow.Rule.Slice.PartMut.{put_mid}
use Rattle.std.proofs.Math.ListN.{replicate}
use Rattle.out_images.specs.Rows.{cover_bytes}
use Rattle.out_rows.proofs.cover_bytes.Goals as goal

-- the eight bytes of a packed cover, the lowest first
abbrev all : ℕ → List ℕ
all c =
    c % 256 ∷ c / 256 % 256 ∷ c / 65536 % 256 ∷ c / 16777216 % 256
    ∷ c / 4294967296 % 256 ∷ c / 1099511627776 % 256 ∷ c / 281474976710656 % 256 ∷ c / 72057594037927936 % 256 ∷ []

-- zeros in place of the bytes behind those of n trains
covers : (n m c : ℕ) (sets none : List ℕ) → m ≡ min n 8 → sets ≡ all c → none ≡ replicate (length (take (8 - m) (drop m sets))) 0
    → put_mid m (8 - m) sets none ≡ cover_bytes n c
unfolding cover_bytes
covers zero m c sets none e s z = let w : m ≡ 0 = omega arith in simp (z, s, w)
covers (suc zero) m c sets none e s z = let w : m ≡ 1 = omega arith in simp (z, s, w)
covers (suc (suc zero)) m c sets none e s z = let w : m ≡ 2 = omega arith in simp (z, s, w)
covers (suc (suc (suc zero))) m c sets none e s z = let w : m ≡ 3 = omega arith in simp (z, s, w)
covers (suc (suc (suc (suc zero)))) m c sets none e s z = let w : m ≡ 4 = omega arith in simp (z, s, w)
covers (suc (suc (suc (suc (suc zero))))) m c sets none e s z = let w : m ≡ 5 = omega arith in simp (z, s, w)
covers (suc (suc (suc (suc (suc (suc zero)))))) m c sets none e s z = let w : m ≡ 6 = omega arith in simp (z, s, w)
covers (suc (suc (suc (suc (suc (suc (suc zero))))))) m c sets none e s z = let w : m ≡ 7 = omega arith in simp (z, s, w)
covers (suc (suc (suc (suc (suc (suc (suc (suc n)))))))) m c sets none e s z =
    let w : m ≡ 8 = omega arith in
    simp (z, s, w) (simp (there 0 (omega arith), there 1 (omega arith), there 2 (omega arith), there 3 (omega arith), there 4 (omega arith), there 5 (omega arith), there 6 (omega arith), there 7 (omega arith)))
  where
    there : (k : ℕ) → k < 8 → ltb k (suc (suc (suc (suc (suc (suc (suc (suc n)))))))) ≡ true
    there k h = lt-ltb k (suc (suc (suc (suc (suc (suc (suc (suc n)))))))) (omega arith)

pub returns : goal.returns
returns c = covers c.args.n c.min.result c.args.c _ _ c.min.ensures c.to_le_bytes-sets.ensures (c.fill.ensures.after (λ y e. e))
