-- What the rank and the tag say of a kind of field: so far each kind has a rank of its own, and it is its tag. Each law is by cases. Assumes nothing.
use Rattle.std.specs.Prelude.{◌≡◌, refl, true, ℕ, zero, suc, ◌≤◌, eqb}
use Rattle.std.proofs.Common.{sym, ap, ◌∙◌, arith, eqb-true, ne_eqb}
use Rattle.std.proofs.lemmas.Bool.{false≢true}
use Rattle.rules.specs.Files.{Kind, kind_of, rank, is, known}
use Rattle.rules.specs.Files.Kind.{head, station, track, train, table, couple, no_field}

kind-of-rank : (k : Kind) → kind_of (rank k) ≡ k
unfolding kind_of
kind-of-rank no_field = refl
kind-of-rank head = refl
kind-of-rank station = refl
kind-of-rank track = refl
kind-of-rank train = refl
kind-of-rank table = refl
kind-of-rank couple = refl

pub is-kind : (j k : Kind) → is j k ≡ true → k ≡ j
is-kind j k h = sym (kind-of-rank k) ∙ ap kind_of (eqb-true (rank k) (rank j) h) ∙ kind-of-rank j

pub some-rank : (k : Kind) → known k ≡ true → 1 ≤ rank k
unfolding known
some-rank no_field h = absurd (false≢true h)
some-rank head h = omega arith
some-rank station h = omega arith
some-rank track h = omega arith
some-rank train h = omega arith
some-rank table h = omega arith
some-rank couple h = omega arith

few_ranks : (k : Kind) → rank k ≤ 6
few_ranks no_field = omega arith
few_ranks head = omega arith
few_ranks station = omega arith
few_ranks track = omega arith
few_ranks train = omega arith
few_ranks table = omega arith
few_ranks couple = omega arith

-- a tag that there is, is the rank of its kind
pub rank-tag : (tag : ℕ) → tag ≤ 6 → rank (kind_of tag) ≡ tag
unfolding kind_of
rank-tag zero h = refl
rank-tag (suc zero) h = refl
rank-tag (suc (suc zero)) h = refl
rank-tag (suc (suc (suc zero))) h = refl
rank-tag (suc (suc (suc (suc zero)))) h = refl
rank-tag (suc (suc (suc (suc (suc zero))))) h = refl
rank-tag (suc (suc (suc (suc (suc (suc zero)))))) h = refl
rank-tag (suc (suc (suc (suc (suc (suc (suc n))))))) h = absurd (omega arith)

-- a field is of a kind by its tag
pub is-tag : (j : Kind) (tag : ℕ) → 1 ≤ rank j → is j (kind_of tag) ≡ eqb tag (rank j)
unfolding kind_of
is-tag j zero h = refl
is-tag j (suc zero) h = refl
is-tag j (suc (suc zero)) h = refl
is-tag j (suc (suc (suc zero))) h = refl
is-tag j (suc (suc (suc (suc zero)))) h = refl
is-tag j (suc (suc (suc (suc (suc zero))))) h = refl
is-tag j (suc (suc (suc (suc (suc (suc zero)))))) h = refl
is-tag j (suc (suc (suc (suc (suc (suc (suc n))))))) h =
    let few = few_ranks j in
    rw (ne_eqb 0 (rank j) (λ e. omega arith), ne_eqb (suc (suc (suc (suc (suc (suc (suc n))))))) (rank j) (λ e. omega arith))
