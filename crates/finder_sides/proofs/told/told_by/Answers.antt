-- `finder_sides::told::told_by` meets its contract. The loop has read the lowest settings, all of them told.
use mathlib.Core.Path.{sym, ◌∙◌}
use native.Mathlib.Omega.{arith}
use Rattle.finder_sides.proofs.ToldLaws.{the_digit, one-more-told}
use Rattle.finder_sides.proofs.CountLaws.{power_most}
use Rattle.finder_sides.proofs.told.told_by.Goals as goal

pub returns-then-digit-eq0 : goal.returns-then-digit-eq0
returns-then-digit-eq0 c =
    let loop = c.loop in
    (loop.counter, c.loop-test.true, sym (the_digit loop.invariant) ∙ c.if-digit-eq0.true, loop.invariant.place)

pub overflow_mul-power : goal.overflow_mul-power
overflow_mul-power c = omega (arith, power_most c.requires.0 c.loop-test.true c.loop.invariant.place)

pub loop-preserved : goal.loop-preserved
loop-preserved c = one-more-told c.loop.invariant c.if-digit-eq0.false
