-- What is put to a text one after the other, is put as one, and what the lent memory holds then. Assumes nothing.
use Rattle.std.proofs.Common.{◌≡◌, ◌∙◌, refl, sym, ap, subst, List, [], ◌++◌, ℕ, ◌≤◌, length, append-nil}
use Rattle.std.proofs.Math.ListN.{replicate}
use Rattle.std.proofs.Math.Seq.{drop-length}
use Rattle.std.specs.Borrow.{MutBor}
use Rattle.rules.specs.Calls.{filled}
use Rattle.theory_lists.specs.Writes.{Put, put_none, put_join, put_as}
use Rattle.out_images.specs.Filled.{cleared-filled}
use Rattle.out_listing.specs.Writer.{Adds}

pub adds_none : (lent : MutBor (List ℕ)) (w : ℕ) → w ≤ length lent.now → Adds lent w [] w lent
adds_none lent w h = record { same = refl; put = put_none lent.now w h }

pub adds_join : {l : MutBor (List ℕ)} {w : ℕ} {a : List ℕ} {r : ℕ} {k : MutBor (List ℕ)} {b : List ℕ} {z : ℕ} {m : MutBor (List ℕ)}
    → Adds l w a r k → Adds k r b z m → Adds l w (a ++ b) z m
adds_join f g = record { same = g.same ∙ f.same; put = put_join f.put g.put }

pub adds_as : {l : MutBor (List ℕ)} {w : ℕ} {L M : List ℕ} {r : ℕ} {m : MutBor (List ℕ)} → Adds l w L r m → L ≡ M → Adds l w M r m
adds_as h e = record { same = h.same; put = put_as h.put e }

-- the text that was lent, in which the numbers stand
pub lent_back : {l : MutBor (List ℕ)} {w : ℕ} {L : List ℕ} {r : ℕ} {m : MutBor (List ℕ)} {text now : List ℕ}
    → Adds l w L r m → l.now ≡ text → m.now ≡ now → Put text w L r now
lent_back {l} {w} {L} {r} {m} {text} {now} h e f = subst (λ (z : List ℕ). Put z w L r now) e (subst (λ (z : List ℕ). Put l.now w L r z) f h.put)

-- a text of zeros alone is cleared
pub zeros-filled : (l : List ℕ) → replicate (length l) 0 ≡ filled (length l) [] l
zeros-filled l =
    sym (append-nil (replicate {A = ℕ} (length l) 0))
    ∙ ap (λ (z : List ℕ). replicate {A = ℕ} (length l) 0 ++ z) (sym (drop-length l))
    ∙ cleared-filled (length l) l
