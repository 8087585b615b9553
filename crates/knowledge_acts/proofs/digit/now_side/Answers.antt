-- `knowledge_acts::digit::now_side` meets its contract: an odd digit tells false, an even one but 0 tells true.
use mathlib.Core.Path.{sym}
use Rattle.knowledge_acts.specs.Seven.{now_told}
use Rattle.knowledge_acts.proofs.Seven.{now_past, now_odd, now_even}
use Rattle.knowledge_acts.proofs.digit.now_side.Goals as goal

pub returns-then-digit-eq0 : goal.returns-then-digit-eq0
unfolding now_told
returns-then-digit-eq0 c = rw c.if-digit-eq0.true

pub returns-then-digit-ge-DIGITS : goal.returns-then-digit-ge-DIGITS
returns-then-digit-ge-DIGITS c = sym (now_past _ c.if-digit-ge-DIGITS.true)

pub returns-then-digit-eq1 : goal.returns-then-digit-eq1
returns-then-digit-eq1 c = sym (now_odd _ c.if-digit-ge-DIGITS.false c.if-digit-eq1.true)

pub returns : goal.returns
returns c = sym (now_even _ c.if-digit-ge-DIGITS.false c.if-digit-eq0.false c.if-digit-eq1.false)
