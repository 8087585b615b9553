-- `unstated_table` meets its contract: the text is a formula, so it is read.
use Rattle.sheet_rules.proofs.HoldLaws.{unstated-read}
use Rattle.sheet_rules.proofs.unstated.unstated_table.Goals as goal

pub unwrap-requires : goal.unwrap-requires
unwrap-requires c = unstated-read c.args.n c.requires.0 c.requires.1 c.args.right c.read.result (rw c.unstated.ensures at c.read.ensures)

pub returns : goal.returns
returns c = rw (c.unstated.ensures, c.unwrap.ensures) at c.read.ensures
