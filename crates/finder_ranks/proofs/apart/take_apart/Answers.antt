-- `finder_ranks::apart::take_apart` meets its contract: the settings passed are taken apart, with a running power of 3.
use mathlib.Core.Path.{◌≡◌, refl}
use Prim.Native.Nat.{◌+◌, ◌*◌, ◌<◌}
use native.Mathlib.Omega.{arith}
use Rattle.ground.specs.Digits.{digit}
use Rattle.ground.proofs.Digits.{digit_lt}
use Rattle.finder_sides.proofs.Shown.{seven, below-sides, below_starts}
use Rattle.finder_ranks.proofs.ApartLaws.{power_none, power_up, now_up, start_up, digit-here, apart_none, apart_more}
use Rattle.finder_ranks.proofs.apart.take_apart.Goals as goal
use Rattle.finder_ranks.proofs.apart.take_apart.Goals.{After-digit-d, After-now_of, After-start_of}

-- what was read is the digit of the number
here : (c : After-digit-d) → c.digit-d.result ≡ digit 7 c.args.k c.loop-i.i
here c = digit-here c.args.k c.loop-i.i c.from_number-state.ensures (omega (arith, c.loop-i-test.true)) c.digit-d.ensures

small : (c : After-digit-d) → c.digit-d.result < 7
small c = rw (here c) (digit_lt seven c.args.k c.loop-i.i)

-- the sides are those of a table
now_fits : (c : After-now_of) → c.digit-d.result ≡ digit 7 c.args.k c.loop-i.i → c.loop-i.now + c.now_of.result * c.loop-i.three < 2187
now_fits c e =
    omega (
      arith,
      now_up c.loop-i.invariant.1 c.loop-i.invariant.0 e c.now_of.result c.now_of.ensures,
      below-sides (c.loop-i.i + 1) c.args.k (omega (arith, c.loop-i-test.true)),
    )

start_fits : (c : After-start_of) → c.digit-d.result ≡ digit 7 c.args.k c.loop-i.i → c.loop-i.start + c.start_of.result * c.loop-i.three < 2187
start_fits c e =
    omega (
      arith,
      start_up c.loop-i.invariant.1 c.loop-i.invariant.0 e c.start_of.result c.start_of.ensures,
      below_starts (c.loop-i.i + 1) c.args.k (omega (arith, c.loop-i-test.true)),
    )

pub loop-i-init : goal.loop-i-init
loop-i-init c = (power_none 3, apart_none c.args.k _ refl)

pub now_of-requires : goal.now_of-requires
now_of-requires c = small c

pub overflow_mul-now : goal.overflow_mul-now
overflow_mul-now c = let at = goal.at.overflow_mul-now c in omega (arith, now_fits at.After-now_of (here at.After-digit-d))

pub overflow_add-now : goal.overflow_add-now
overflow_add-now c = let at = goal.at.overflow_add-now c in omega (arith, now_fits at.After-now_of (here at.After-digit-d))

pub start_of-requires : goal.start_of-requires
start_of-requires c = small (goal.at.start_of-requires c).After-digit-d

pub overflow_mul-start : goal.overflow_mul-start
overflow_mul-start c = let at = goal.at.overflow_mul-start c in omega (arith, start_fits at.After-start_of (here at.After-digit-d))

pub overflow_add-start : goal.overflow_add-start
overflow_add-start c = let at = goal.at.overflow_add-start c in omega (arith, start_fits at.After-start_of (here at.After-digit-d))

pub loop-i-preserved : goal.loop-i-preserved
loop-i-preserved c =
    let inv = c.loop-i.invariant in (
      power_up 3 c.loop-i.i c.loop-i.three inv.0,
      apart_more inv.1 inv.0 (here (goal.at.loop-i-preserved c).After-digit-d) (omega (arith, c.loop-i-test.true)) c.now_of.ensures c.start_of.ensures,
    )
