-- `Truths::constant` meets its contract: all bits or none, by a computed test.
use Rattle.formula_table.proofs.TwoWords.{constant_true, constant_false}
use Rattle.formula_table.proofs.Truths.constant.Goals as goal

pub returns-then-value : goal.returns-then-value
returns-then-value c = constant_true c.args.value c.if-value.true

pub returns-else-value : goal.returns-else-value
returns-else-value c = constant_false c.args.value c.if-value.false
