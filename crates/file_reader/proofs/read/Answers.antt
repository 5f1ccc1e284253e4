-- `file_reader::read` meets its contract: what is left of the reading answers for the whole, and each turn passes one field. Assumes nothing.
use Rattle.std.proofs.Common.{◌≡◌, ap, refl, sym, ◌∙◌, arith, rules}
use Rattle.file_reader.specs.Laws.{fresh, left-start, left_end, left-stop, left-next, passes, within-start, sound_of, faulty, fault_in}
use Rattle.std.proofs.lemmas.Result.{MatchResult-at_err}
use Rattle.file_reader.specs.Told.{judged_of}
use Rattle.file_reader.proofs.read.Goals as goal

pub loop-seen-init : goal.loop-seen-init
loop-seen-init c =
    rw (fresh c.default-seen.result c.default-seen.ensures) (record { within = within-start _; left = left-start _ _ })

pub returns-in_default : goal.returns-in_default
returns-in_default c =
    let e = faulty c.judge.result c.in_default.ensures.variant in
    let given = MatchResult-at_err _ _ (fault_in c.judge.result) e c.in_default.ensures.cases in
    let placed : c.in_default.field-0 ≡ record { fault = fault_in c.judge.result; place = c.loop-seen.seen.at } = search rules in
    let stop = left-stop c.loop-seen.invariant.left c.loop-seen-test.true (sym (ap judged_of e) ∙ c.judge.ensures) refl in
    let stays = c.map.ensures in
    search rules

pub loop-seen-smaller : goal.loop-seen-smaller
loop-seen-smaller c =
    let p = sound_of _ c.judge.result c.in-Ok.next c.in-Ok.ensures.variant c.in-Ok.ensures.cases ∙ c.judge.ensures in
    let q = passes _ _ _ c.loop-seen.invariant.within _ (sym p) in
    let i = c.loop-seen-test.true in
    omega arith

pub loop-seen-preserved : goal.loop-seen-preserved
loop-seen-preserved c =
    let p = sym (sound_of _ c.judge.result c.in-Ok.next c.in-Ok.ensures.variant c.in-Ok.ensures.cases ∙ c.judge.ensures) in
    let i = c.loop-seen.invariant in
    record { within = (passes _ _ _ i.within _ p).there; left = left-next i.left i.within c.loop-seen-test.true _ p }

pub returns : goal.returns
returns c = c.finish.ensures ∙ left_end c.loop-seen.invariant.left c.loop-seen-test.false
