-- `first_height` meets its contract: at each height the start's entry bars the lower ones; a height fails, and the entry has grown.
use Rattle.finder_plain.proofs.HeightLaws.{height_yes, height_gap, last_no}
use Rattle.finder_plain.proofs.finding.first_height.Goals as goal

pub returns-then-works_below : goal.returns-then-works_below
returns-then-works_below c =
    let inv = c.loop-height.invariant in
    height_yes inv.0 inv.1 c.works_below.ensures c.if-works_below.true

pub returns-then-has_gap : goal.returns-then-has_gap
returns-then-has_gap c =
    let inv = c.loop-height.invariant in
    height_gap inv.0 inv.1 c.works_below.ensures c.if-works_below.false c.has_gap.ensures c.if-has_gap.true

pub returns : goal.returns
returns c =
    let inv = c.loop-height.invariant in
    last_no inv.0 inv.1 c.heights-height-end.ensures c.loop-height-test.false
