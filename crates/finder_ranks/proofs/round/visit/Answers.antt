-- `finder_ranks::round::visit` meets its contract: each setting passed was pushed along, and the powers run with it.
use native.Mathlib.Omega.{arith}
use Rattle.finder_sides.proofs.CountLaws.{states_most, sides-most}
use Rattle.finder_ranks.proofs.ApartLaws.{power_up}
use Rattle.finder_ranks.proofs.Sweeps.{visit_more}
use Rattle.finder_ranks.proofs.round.visit.Goals as goal

pub overflow_cast-k : goal.overflow_cast-k
overflow_cast-k c = omega (arith, c.requires.1, states_most c.args.n c.requires.0)

pub overflow_mul-seven : goal.overflow_mul-seven
overflow_mul-seven c = omega (arith, c.loop-i.invariant.0, states_most c.loop-i.i (omega arith))

pub overflow_mul-three : goal.overflow_mul-three
overflow_mul-three c = omega (arith, c.loop-i.invariant.1, sides-most c.loop-i.i (omega arith))

pub loop-i-preserved : goal.loop-i-preserved
loop-i-preserved c =
    let loop = c.loop-i in (
      power_up 7 loop.i loop.seven loop.invariant.0,
      power_up 3 loop.i loop.three loop.invariant.1,
      visit_more c.requires.2.high loop.invariant.2 c.push.ensures,
    )
