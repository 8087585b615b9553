-- `Truths::letter` meets its contract: the table of letters by a computed test over its entries.
use native.Mathlib.Omega.{arith}
use Rattle.formula_table.proofs.TwoWords.{letter-holds, last_letter-holds, past-letter-holds, letters}
use lib.Arith.{lt_of_le-ne}
use Rattle.formula_table.proofs.Truths.letter.Goals as goal

pub returns-then-i-eq6 : goal.returns-then-i-eq6
returns-then-i-eq6 c = last_letter-holds c.args.i c.if-i-eq6.true

pub returns-then-i-gt6 : goal.returns-then-i-gt6
returns-then-i-gt6 c = past-letter-holds c.args.i c.if-i-gt6.true

pub offset_bounds-i : goal.offset_bounds-i
offset_bounds-i c = omega (arith, lt_of_le-ne c.if-i-gt6.false c.if-i-eq6.false)

pub returns : goal.returns
unfolding letters
returns c = letter-holds c.args.i (lt_of_le-ne c.if-i-gt6.false c.if-i-eq6.false)
