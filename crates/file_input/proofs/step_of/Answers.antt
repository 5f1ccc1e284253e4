-- `file_input::step_of` meets its contract: by the kind of the read's error, and by the count of one that did not fail. Assumes nothing.
use Rattle.std.specs.Prelude.{◌≡◌, ◌↔◌, IsTrue}
use Rattle.std.specs.IoError.{error_kind}
use Rattle.std.specs.declared.io.Error.{Error}
use Rattle.std.specs.declared.io.ErrorKind.{ErrorKind}
use Rattle.std.proofs.Common.{ap, subst, cond, Bool, length, eq-eqb, ne_eqb}
use Rattle.file_input.specs.Reads.{Means, Step}
use Rattle.file_input.specs.Reads.Step.{More, Ended, Broken}
use Rattle.file_input.specs.Laws.{counted-means, failed-means}
use Rattle.file_input.proofs.step_of.Goals as goal

pub returns-then-n-eq0 : goal.returns-then-n-eq0
returns-then-n-eq0 c =
    subst (λ (s : Step). Means c.args.got (length c.args.buf.now) s) (ap (λ (b : Bool). cond b Ended (More c.min-n.result)) (eq-eqb _ 0 c.if-n-eq0.true))
    (counted-means c.args.got _ _ c.min-n.result c.in-Ok.is c.min-n.ensures)

pub returns-else-n-eq0 : goal.returns-else-n-eq0
returns-else-n-eq0 c =
    subst (λ (s : Step). Means c.args.got (length c.args.buf.now) s) (ap (λ (b : Bool). cond b Ended (More c.min-n.result)) (ne_eqb _ 0 c.if-n-eq0.false))
    (counted-means c.args.got _ _ c.min-n.result c.in-Ok.is c.min-n.ensures)

pub returns-in-Err : goal.returns-in-Err
returns-in-Err c =
    subst (λ (s : Step). Means c.args.got (length c.args.buf.now) s) (ap (λ (i : Bool). cond i (More 0) Broken) c.if-was_interrupted.true)
    (failed-means c.args.got _ _ c.was_interrupted.result c.in-Err.is
    (subst (λ (e : Error). IsTrue c.was_interrupted.result ↔ (error_kind e ≡ ErrorKind.Interrupted)) c.in-Err.e-is c.was_interrupted.ensures))

pub returns-in-Err-2 : goal.returns-in-Err-2
returns-in-Err-2 c =
    subst (λ (s : Step). Means c.args.got (length c.args.buf.now) s) (ap (λ (i : Bool). cond i (More 0) Broken) c.if-was_interrupted.false)
    (failed-means c.args.got _ _ c.was_interrupted.result c.in-Err.is
    (subst (λ (e : Error). IsTrue c.was_interrupted.result ↔ (error_kind e ≡ ErrorKind.Interrupted)) c.in-Err.e-is c.was_interrupted.ensures))
