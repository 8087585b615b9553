-- `finder_ranks::marks::mark_seven` meets its contract. The loop has marked the states with the lowest digits.
use Prim.Native.Nat.{◌+◌, ◌*◌, ◌<◌, ◌-◌}
use native.Mathlib.Omega.{arith}
use lib.Dec.{lit<}
use Rattle.finder_sides.proofs.CountLaws.{states_most}
use Rattle.finder_ranks.proofs.MarkLaws.{stored_more, now_index, start_index, mark_here, seven_fit, now_told_lem, start_told_lem}
use Rattle.finder_ranks.proofs.marks.mark_seven.Goals as goal
use Rattle.finder_ranks.proofs.marks.mark_seven.Goals.{After-now_of, After-start_of}

-- the sides of one setting more are those of a table
now_at : (c : After-now_of) → c.take_apart-parts.result.now * 3 + c.now_of.result < 2187
now_at c =
    let apart = c.take_apart-parts.ensures in
    now_index c.args.n c.args.rest c.requires.0 c.requires.1 apart.now_is apart.start_is c.now_of.result
    (now_told_lem c.now_of.result c.loop-digit.digit c.loop-digit-test.true c.now_of.ensures)

start_at : (c : After-start_of) → c.take_apart-parts.result.start * 3 + c.start_of.result < 2187
start_at c =
    let apart = c.take_apart-parts.ensures in
    start_index c.args.n c.args.rest c.requires.0 c.requires.1 apart.now_is apart.start_is c.start_of.result
    (start_told_lem c.start_of.result c.loop-digit.digit c.loop-digit-test.true c.start_of.ensures)

pub overflow_cast-rest : goal.overflow_cast-rest
overflow_cast-rest c = omega (arith, c.requires.2, states_most (c.args.n - 1) (omega (arith, c.requires.1)))

pub overflow_mul-now : goal.overflow_mul-now
overflow_mul-now c =
    let apart = c.take_apart-parts.ensures in
    omega (arith, now_index c.args.n c.args.rest c.requires.0 c.requires.1 apart.now_is apart.start_is 0 (lit< tt))

pub overflow_mul-start : goal.overflow_mul-start
overflow_mul-start c =
    let apart = c.take_apart-parts.ensures in
    omega (arith, start_index c.args.n c.args.rest c.requires.0 c.requires.1 apart.now_is apart.start_is 0 (lit< tt))

pub overflow_add-done : goal.overflow_add-done
overflow_add-done c = omega (arith, now_at (goal.at.overflow_add-done c).After-now_of)

pub bounds-made-now : goal.bounds-made-now
bounds-made-now c = now_at (goal.at.bounds-made-now c).After-now_of

pub overflow_add-known : goal.overflow_add-known
overflow_add-known c = omega (arith, start_at (goal.at.overflow_add-known c).After-start_of)

pub bounds-learnt-start : goal.bounds-learnt-start
bounds-learnt-start c = start_at (goal.at.bounds-learnt-start c).After-start_of

pub loop-digit-preserved : goal.loop-digit-preserved
loop-digit-preserved c =
    let apart = c.take_apart-parts.ensures in
    let loop = c.loop-digit in
    let below = c.loop-digit-test.true in
    stored_more (c.args.rest * 7 + (loop.digit + 1)) c.mark_of.result loop.invariant (omega arith)
    (omega (arith, seven_fit c.args.n c.args.rest _ c.requires.0 c.requires.2 c.requires.3, below, loop.invariant.long)) (omega arith)
    (mark_here c.args.n c.args.rest c.requires.0 c.requires.1 apart.now_is apart.start_is loop.digit
    c.args.made.now c.args.learnt.now below c.now_of.ensures c.start_of.ensures c.mark_of.ensures)
