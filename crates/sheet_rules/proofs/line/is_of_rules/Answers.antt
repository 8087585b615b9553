use Rattle.std.proofs.Common.{arith}
use Rattle.std.proofs.lemmas.Grind.{common_steps}
use Rattle.sheet_rules.specs.Forms.{is_of_rules}
use Rattle.sheet_rules.proofs.line.is_of_rules.Goals as goal

pub returns-then-is_rule : goal.returns-then-is_rule
unfolding is_of_rules
returns-then-is_rule c = grind (arith, common_steps)

pub returns-else-is_rule : goal.returns-else-is_rule
unfolding is_of_rules
returns-else-is_rule c = grind (arith, common_steps)
