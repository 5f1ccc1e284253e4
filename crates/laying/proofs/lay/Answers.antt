-- `laying::lay` meets its contract: each return is one of the ways in which a run ends. Assumes nothing.
use Rattle.std.proofs.Common.{refl, sym, ap, subst, rules}
use Rattle.file_lookup.specs.Told.{told}
use Rattle.laying.specs.Steps.{Start, Tells, files_answer}
use Rattle.laying.specs.Laws.{start_tells, laid-refused, laid-over, laid-stands, ran-few}
use Rattle.laying.proofs.lay.Goals as goal

pub returns-in-Err : goal.returns-in-Err
returns-in-Err c =
    let a = c.args in
    let e = ap told c.in-Err.is in
    let tells = start_tells a.case.now a.book.now a.stop (told a.files) c.requires.start in record {
      laid = laid-refused a.case.now a.book.now a.stop e tells (sym (ap files_answer e)) c.clear.ensures.0 c.clear.ensures.1;
      reached = subst Tells e tells;
    }

pub run_to-requires : goal.run_to-requires
run_to-requires c =
    let a = c.args in
    record { begins = subst (Start a.case.now a.book.now a.stop) (ap told c.in-Ok.is) c.requires.start; none = search rules }

pub returns-in_default : goal.returns-in_default
returns-in_default c =
    let a = c.args in
    let e = ap told c.in-Ok.is in
    let b = subst (Start a.case.now a.book.now a.stop) e c.requires.start in record {
      laid =
          laid-over a.case.now a.book.now a.stop e b (c.run_to.ensures b.of b.accepted) c.in_default.is refl c.clear-in_default.ensures.0 c.clear-in_default.ensures.1;
      reached = search rules;
    }

pub fill-requires : goal.fill-requires
fill-requires c =
    let a = c.args in
    let b = subst (Start a.case.now a.book.now a.stop) (ap told c.in-Ok.is) c.requires.start in
    let few = ran-few b.of a.stop (c.run_to.ensures b.of b.accepted) c.in-Some.is in
    (few, c.requires.long.0, c.requires.long.1)

pub returns : goal.returns
returns c =
    let a = c.args in
    let e = ap told c.in-Ok.is in
    let b = subst (Start a.case.now a.book.now a.stop) e c.requires.start in record {
      laid = laid-stands a.case.now a.book.now a.stop e b (c.run_to.ensures b.of b.accepted) c.in-Some.is refl c.fill.ensures;
      reached = tt;
    }
