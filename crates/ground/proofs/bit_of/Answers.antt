-- `bit_of` meets its contract: past the eighth bit a byte has none.
use mathlib.Core.Path.{sym, refl, ◌∙◌}
use native.Mathlib.Omega.{arith}
use borrow.Author.Tests.{le-ltb}
use Rattle.ground.specs.Digits.{bit, digit}
use Rattle.ground.proofs.HighBits.{high_bit}
use Rattle.ground.proofs.bit_of.Goals as goal

pub returns-then-i-lt8 : goal.returns-then-i-lt8
unfolding bit digit
returns-then-i-lt8 c = refl

pub returns-else-i-lt8 : goal.returns-else-i-lt8
returns-else-i-lt8 c = le-ltb _ _ c.if-i-lt8.false ∙ sym (high_bit c.args.byte 8 _ (omega arith) c.if-i-lt8.false)
