-- 01, "Listing and figures", the program: what it prints for a case and a book, as bytes. Assumes nothing: these are definitions.
use Rattle.std.specs.Prelude.{List, [], ℕ, take}
use Rattle.std.proofs.Math.Option.{Option, none, some}
use Rattle.rules.specs.Refusals.{Result}
use Rattle.rules.specs.Refusals.Result.{refused, answer}
use Rattle.rules.specs.Listing.{refused_line}
use Rattle.rules.specs.Calls.{Run, whole_run, text_of}

-- a refused case prints `refused`, number, file, place on one line; any other prints its listing
abbrev pub text_for : Result Run → List ℕ
text_for (refused r) = refused_line r
text_for (answer u) = text_of u

-- what is printed for a case and a book
unfoldable pub printed : List ℕ → List ℕ → List ℕ
printed cs bk = text_for (whole_run cs bk)

-- a book that can't be opened counts as empty
abbrev pub book_of : Option (List ℕ) → List ℕ
book_of none = []
book_of (some bk) = bk

-- at most the first 4,096 bytes of each file are handed on
abbrev pub handed : List ℕ → List ℕ
handed file = take 4096 file

-- the program prints the listing of the case on standard input, with the book from the file `types.book`
unfoldable pub program : List ℕ → Option (List ℕ) → List ℕ
program cs bk = printed (handed cs) (handed (book_of bk))
