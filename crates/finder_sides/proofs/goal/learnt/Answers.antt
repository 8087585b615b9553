-- `finder_sides::goal::learnt` meets its contract. The loop has met the tables of the first j learn formulas.
use native.Mathlib.Nat.{min-le_right}
use native.Mathlib.Omega.{arith}
use Rattle.finder_sides.proofs.GoalLaws.{learnt-none, learnt-more}
use Rattle.finder_sides.proofs.goal.learnt.Goals as goal

pub loop-j-init : goal.loop-j-init
loop-j-init c =
    let counted = c.up_to_seven-settings.ensures in
    (counted, learnt-none c.args.learn.now (rw counted (min-le_right _ 7)) c.fill-table.ensures)

pub loop-j-preserved : goal.loop-j-preserved
loop-j-preserved c =
    let inv = c.loop-j.invariant in
    (inv.0, learnt-more c.loop-j.j c.args.learn.now (omega arith) inv.1 c.settled.ensures c.meet-table.ensures)
