-- `knowledge_acts::digit::start_side` meets its contract: the digits stand in the order of what they tell of the start.
use mathlib.Core.Path.{sym}
use native.Mathlib.Omega.{arith}
use Rattle.knowledge_acts.proofs.Seven.{start_low, start_middle, start_high, start_past}
use Rattle.knowledge_acts.proofs.digit.start_side.Goals as goal

pub returns-then-digit-lt3 : goal.returns-then-digit-lt3
returns-then-digit-lt3 c = sym (start_low _ c.if-digit-lt3.true)

pub returns-then-digit-lt5 : goal.returns-then-digit-lt5
returns-then-digit-lt5 c = sym (start_middle c.args.digit (omega arith) (omega arith))

pub returns-then-digit-lt-DIGITS : goal.returns-then-digit-lt-DIGITS
returns-then-digit-lt-DIGITS c = sym (start_high c.args.digit (omega arith) (omega arith))

pub returns : goal.returns
returns c = sym (start_past _ c.if-digit-lt-DIGITS.false)
