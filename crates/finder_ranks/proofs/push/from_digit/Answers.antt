-- `finder_ranks::push::from_digit` meets its contract: the state stands at the spot with the digit e, and its side likewise.
use native.Mathlib.Omega.{arith}
use Rattle.finder_ranks.proofs.Spots.{spot_below, spot_states, spot_sides}
use Rattle.finder_ranks.proofs.AtSpots.{set_at}
use Rattle.finder_ranks.proofs.push.from_digit.Goals as goal

pub overflow_mul-at : goal.overflow_mul-at
overflow_mul-at c =
    let pre = c.requires in
    omega (arith, spot_below pre.0 c.args.e pre.2, spot_states pre.0)

pub overflow_add-at : goal.overflow_add-at
overflow_add-at c =
    let pre = c.requires in
    omega (arith, spot_below pre.0 c.args.e pre.2, spot_states pre.0)

pub overflow_mul-side : goal.overflow_mul-side
overflow_mul-side c =
    let pre = c.requires in
    omega (arith, rw (← c.now_of.ensures) at (spot_sides pre.0 c.args.e pre.2))

pub overflow_add-side : goal.overflow_add-side
overflow_add-side c =
    let pre = c.requires in
    omega (arith, rw (← c.now_of.ensures) at (spot_sides pre.0 c.args.e pre.2))

pub may-so-requires : goal.may-so-requires
may-so-requires c =
    let pre = c.requires in
    (omega (arith, pre.0.few, pre.0.setting), rw (← c.now_of.ensures) at (spot_sides pre.0 c.args.e pre.2))

pub give-requires : goal.give-requires
give-requires c =
    let pre = c.requires in
    omega (arith, spot_below pre.0 c.args.e pre.2, pre.1.room)

pub returns : goal.returns
returns c =
    let pre = c.requires in
    set_at pre.0 pre.1 pre.2 pre.3 c.now_of.ensures c.may-so.ensures c.give.ensures
