-- `file_tracks::Known::has_track` meets its contract: `any` over the tracks is the search by index. Assumes nothing.
use Prim.Native.Nat.{◌+◌, ◌*◌}
use mathlib.Core.Path.{refl}
use borrow.Author.Rules.{rules}
use borrow.Author.Tests.{tests}
use Rattle.file_bodies.specs.Bodies.{ends, joined}
use Rattle.file_bodies.proofs.Any.{any_answers}
use Rattle.file_tracks.proofs.Known.has_track.Goals as goal

pub returns : goal.returns
unfolding joined
returns c =
    let k = c.args.self.now in
    any_answers _ _ _ (λ j. ends k.bytes.now (k.base + 6 * j) c.args.from c.args.to) _ c.any.ensures.ran refl (λ x q h. search (rules, tests)) (λ x q h. search (rules, tests))
