-- `file_tracks::is_taken` meets its contract: `any` over the couples is the search by index. Assumes nothing.
use Prim.Native.Nat.{◌+◌, ◌*◌}
use mathlib.Core.Path.{refl}
use borrow.Author.Rules.{rules}
use borrow.Author.Tests.{tests}
use Rattle.file_bodies.specs.Bodies.{in_couple, taken}
use Rattle.file_bodies.proofs.Any.{any_answers}
use Rattle.file_tracks.proofs.is_taken.Goals as goal

pub returns : goal.returns
unfolding taken
returns c =
    let a = c.args in
    any_answers _ _ _ (λ k. in_couple a.earlier.now (a.first + 5 * k) a.t) _ c.any.ensures.ran refl (λ x q h. search (rules, tests)) (λ x q h. search (rules, tests))
