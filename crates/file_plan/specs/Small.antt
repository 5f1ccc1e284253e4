-- The delays of an accepted case are bytes, for files whose elements are bytes (`files-small`): each is one of a table's body. Assumes nothing.
use Rattle.std.specs.Prelude.{◌≡◌, refl, Bool, List, [], ℕ, ◌+◌, ◌*◌, ◌≤◌, ◌<◌, length, get_or, take, drop, ltb}
use Rattle.std.proofs.Math.Bool.{true, false, cond}
use native.Mathlib.Omega.{arith}
use Rattle.std.proofs.Common.{length-take, get_or-take, get_or-drop, ltb-true, ltb-false}
use Rattle.std.proofs.Math.ListN.{get_or-eq_default}
use Rattle.rules.specs.Refusals.Result.{answer}
use Rattle.rules.specs.Files.{Case, byte, word, files}
use Rattle.rules.specs.Single.{pair_at}
use Rattle.rules.specs.Promised.{Bytes}
use Rattle.file_fields.specs.Fields.{past, whole, body_at}
use Rattle.file_lookup.specs.Lookup.{table_place, table_bytes}
use Rattle.file_tables.specs.Model.{onward, table_in, pairs_in, pair_word, train_place}
use Rattle.file_plan.specs.Decoded.{Decoded, decoded}
use Rattle.file_plan.specs.Parts.{pairs-none, delay-word}

-- ---- parts of a list of bytes

bytes_drop : (n : ℕ) (l : List ℕ) → Bytes l → Bytes (drop n l)
bytes_drop n l h i = rw (get_or-drop n l i 0) (h (n + i))

bytes_take : (n : ℕ) (l : List ℕ) → Bytes l → Bytes (take n l)
bytes_take n l h i = go (ltb i n) refl
  where
    go : (b : Bool) → ltb i n ≡ b → get_or (take n l) i 0 < 256
    go true e = rw (get_or-take n l i 0 (ltb-true i n e)) (h i)
    go false e =
        let y = ltb-false i n e in
        let z = get_or-eq_default (take n l) 0 {n = i} (omega (arith, length-take n l)) in
        omega arith

bytes-body : (l : List ℕ) (i : ℕ) → Bytes l → Bytes (body_at l i)
unfolding body_at
bytes-body l i h = go (whole l i)
  where
    go : (b : Bool) → Bytes (cond b (take (word l (i + 1)) (drop (i + 3) l)) [])
    go true = bytes_take (word l (i + 1)) (drop (i + 3) l) (bytes_drop (i + 3) l h)
    go false = λ j. omega arith

bytes-table : (cs bk : List ℕ) (t : ℕ) → Bytes cs → Bytes bk → Bytes (table_bytes cs bk t)
unfolding table_bytes
bytes-table cs bk t h k = go (ltb (table_place cs t) (length cs))
  where
    go : (b : Bool) → Bytes (cond b (body_at cs (table_place cs t)) (body_at bk (table_place bk t)))
    go true = bytes-body cs (table_place cs t) h
    go false = bytes-body bk (table_place bk t) k

-- ---- bytes of the case

module _ (cs bk : List ℕ) (C : Case) (s r n : ℕ) (D : Decoded cs bk C s r n) (h : Bytes cs) (k : Bytes bk) where
  byte-delay : (j d : ℕ) → (pair_at C j d).delay ≤ 255
  byte-delay j d = go (ltb j n) refl
    where
      small : (i : ℕ) → pair_word (table_in cs bk i) 1 d ≤ 255
      small i = unfold pair_word table_in in (test (ltb d (pairs_in (table_bytes cs bk (byte cs (i + 4))))) (bytes-table cs bk (byte cs (i + 4)) h k (1 + 2 * d)))
        where
          test : {x : ℕ} (b : Bool) → x < 256 → cond b x 0 ≤ 255
          test true q = omega arith
          test false q = omega arith

      go : (b : Bool) → ltb j n ≡ b → (pair_at C j d).delay ≤ 255
      go true q = rw (delay-word cs bk C s r n D j d (ltb-true j n q)) (small (onward (past cs) j (train_place s r)))
      go false q = rw (pairs-none cs bk C s r n D j (ltb-false j n q)) (omega arith)

pub files-small : (cs bk : List ℕ) (C : Case) → Bytes cs → Bytes bk → files cs bk ≡ answer C → (j d : ℕ) → (pair_at C j d).delay ≤ 255
files-small cs bk C h k e = byte-delay cs bk C _ _ _ (decoded cs bk C e) h k
