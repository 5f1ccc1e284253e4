-- The table of a type, by walking over a file's whole fields, and the first train whose type has none: forms that run by offset.
-- Assumes nothing: these are definitions.
use Rattle.std.specs.Prelude.{◌≡◌, ◌≤◌, Bool, false, cond, List, ℕ, zero, suc, ◌+◌, length, get_or, leb, ltb, eqb, Option, Some, None}
use Rattle.std.specs.List.{slice_get}
use Rattle.rules.specs.Files.{byte}
use Rattle.rules.specs.Lists.{keep}
use Rattle.file_fields.specs.Fields.{past, whole, body_at, places}

-- the first of at most n fields from i on that passes the test; the file's length if none does
unfoldable pub seek : (ℕ → Bool) → ℕ → List ℕ → ℕ → ℕ
seek test zero l i = length l
seek test (suc n) l i = cond (whole l i) (cond (test i) i (seek test n l (past l i))) (length l)

unfoldable pub first_place : (ℕ → Bool) → List ℕ → ℕ
first_place test l = seek test (suc (length l)) l 0

-- the field that passes the test after n others that do, where there is one
unfoldable pub nth_place : (ℕ → Bool) → List ℕ → ℕ → Option ℕ
nth_place test l n = slice_get (keep test (places l)) n

-- what is answered at the places of whole fields is what the test says there
pub record Tests (answers : ℕ → Bool → Type 0) (l : List ℕ) (test : ℕ → Bool) : Type 0 where
  pub same : (i : ℕ) (b : Bool) → i + 3 ≤ length l → answers i b → b ≡ test i

-- a place below n, and none where it is not
unfoldable pub found : ℕ → ℕ → Option ℕ
found n i = cond (ltb i n) (Some i) None

-- the field at i is a delay table of type t
unfoldable pub is_table : List ℕ → ℕ → ℕ → Bool
is_table l t i = cond (eqb (byte l i) 5) (eqb (byte l (i + 3)) t) false

abbrev pub table_place : List ℕ → ℕ → ℕ
table_place l t = first_place (is_table l t) l

-- the body of the table in the case, and otherwise of the one in the book; nothing where there is none
unfoldable pub table_bytes : List ℕ → List ℕ → ℕ → List ℕ
table_bytes cs bk t =
    cond (ltb (table_place cs t) (length cs))
    (body_at cs (table_place cs t))
    (body_at bk (table_place bk t))

-- neither file has a table of type t
unfoldable pub untabled : List ℕ → List ℕ → ℕ → Bool
untabled cs bk t = cond (ltb (table_place cs t) (length cs)) false (leb (length bk) (table_place bk t))

-- the field at i is a train whose type has no table
unfoldable pub lacks : List ℕ → List ℕ → ℕ → Bool
lacks cs bk i = cond (eqb (byte cs i) 4) (untabled cs bk (byte cs (i + 4))) false

abbrev pub lacking_place : List ℕ → List ℕ → ℕ
lacking_place cs bk = first_place (lacks cs bk) cs

-- the offsets of the trains' fields, by train number, and the case's length past the last
unfoldable pub train_places : List ℕ → List ℕ
train_places l = keep (λ i. eqb (byte l i) 4) (places l)

unfoldable pub train_place : List ℕ → ℕ → ℕ
train_place l k = get_or (train_places l) k (length l)
