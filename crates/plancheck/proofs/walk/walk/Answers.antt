-- `walk` meets its contract: after each turn the standing and the bytes that are left give the answer of the whole plan.
use Rattle.std.proofs.lemmas.Result.{err_from_is_err_and}
use Rattle.plancheck.proofs.StandingLaws.{walking_first, walking_on, walking_fault}
use Rattle.plancheck.proofs.walk.walk.Goals as goal

pub loop-at-init : goal.loop-at-init
loop-at-init c = walking_first c.args.start c.args.plan.now c.requires.2 c.first-standing.ensures

pub returns-in_err-standing : goal.returns-in_err-standing
returns-in_err-standing c =
    let p = err_from_is_err_and c.from_residual.result c.from_residual.ensures.1 in
    rw (p.1, p.2) (walking_fault c.args.start c.args.plan.now c.loop-at.invariant c.loop-at-test.true c.in_err-standing.ensures)

pub loop-at-preserved : goal.loop-at-preserved
loop-at-preserved c = walking_on c.args.start c.args.plan.now c.loop-at.invariant c.loop-at-test.true c.in_ok-standing.ensures
