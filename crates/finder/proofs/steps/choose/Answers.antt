-- `choose` meets its contract: the loop has found no act of the pairs below `pair` that leads lower.
use Rattle.finder.proofs.StepLaws.{none_left, smallest}
use Rattle.finder.proofs.steps.choose.Goals as goal

pub returns-in-Some : goal.returns-in-Some
returns-in-Some c =
    let loop = c.loop-pair in
    λ S t.
    let x = c.in-Some.ensures S t in
    smallest t c.args.k c.requires.1 loop.pair x.0 c.in-Some.act c.loop-pair-test.true (loop.invariant S t) x.1 x.2 x.3

pub returns : goal.returns
returns c = λ S t. none_left t c.args.k c.requires.1 c.loop-pair.pair c.loop-pair-test.false (c.loop-pair.invariant S t)
