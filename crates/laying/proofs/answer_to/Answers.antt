-- `laying::answer_to` meets its contract: each arm is a case of the outcome. Assumes nothing.
use Rattle.std.proofs.Common.{ℕ, ap, sym, ◌∙◌, subst}
use Rattle.laying.specs.Told.{answer_to, Reached}
use Rattle.laying.proofs.answer_to.Goals as goal

pub returns-in-Ok : goal.returns-in-Ok
returns-in-Ok c = c.answered.ensures ∙ sym (ap answer_to c.in-Ok.is)

pub refused_for-requires : goal.refused_for-requires
refused_for-requires c = subst (Reached {A = ℕ}) c.in-Err.is c.requires

pub returns-in-Err : goal.returns-in-Err
returns-in-Err c = c.refused_for.ensures ∙ sym (ap answer_to c.in-Err.is)
