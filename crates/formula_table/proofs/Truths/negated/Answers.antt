-- `Truths::negated` meets its contract: `^` with all ones turns each of the 128 bits.
use Rattle.formula_table.proofs.TwoWords.{not-holds}
use Rattle.formula_table.proofs.Truths.negated.Goals as goal

pub returns : goal.returns
returns c = not-holds c.args.self
