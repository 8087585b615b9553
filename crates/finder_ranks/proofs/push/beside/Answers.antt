-- `finder_ranks::push::beside` meets its contract: the state with digit 0 is offered the rank where the other outcome is below it.
use native.Mathlib.Omega.{arith}
use Rattle.finder_ranks.proofs.Spots.{spot_below, spot_states, spot_sides}
use Rattle.finder_ranks.proofs.AtSpots.{look_at, look_high-at}
use Rattle.finder_ranks.proofs.push.beside.Goals as goal

pub overflow_mul-other : goal.overflow_mul-other
overflow_mul-other c =
    let pre = c.requires in
    omega (arith, spot_below pre.0 c.args.e pre.2, spot_states pre.0)

pub overflow_add-other : goal.overflow_add-other
overflow_add-other c =
    let pre = c.requires in
    omega (arith, spot_below pre.0 c.args.e pre.2, spot_states pre.0)

pub bounds-ranks-other : goal.bounds-ranks-other
bounds-ranks-other c =
    let pre = c.requires in
    omega (arith, spot_below pre.0 c.args.e pre.2, pre.1.room)

pub may-so-requires : goal.may-so-requires
may-so-requires c =
    let pre = c.requires in
    (omega (arith, pre.0.few, pre.0.setting), omega (arith, spot_sides pre.0 0 (omega arith)))

pub give-requires : goal.give-requires
give-requires c =
    let pre = c.requires in
    omega (arith, spot_below pre.0 0 (omega arith), pre.1.room)

pub returns-then-ranks-other : goal.returns-then-ranks-other
returns-then-ranks-other c =
    let pre = c.requires in
    look_at pre.0 c.args.e pre.1 pre.3 c.if-ranks-other.true c.may-so.ensures c.give.ensures

pub returns-else-ranks-other : goal.returns-else-ranks-other
returns-else-ranks-other c =
    let pre = c.requires in
    look_high-at pre.0 c.args.e pre.3 c.if-ranks-other.false
