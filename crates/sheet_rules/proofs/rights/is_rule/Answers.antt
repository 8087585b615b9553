use Rattle.std.proofs.Common.{arith}
use Rattle.std.proofs.lemmas.Grind.{common_steps}
use Rattle.sheet_rules.specs.Forms.{is_rule, is_setting, is_post}
use Rattle.sheet_rules.proofs.rights.is_rule.Goals as goal

pub returns-then-among-2 : goal.returns-then-among-2
unfolding is_rule is_setting is_post
returns-then-among-2 c = grind (arith, common_steps)

pub returns-else-among-2 : goal.returns-else-among-2
unfolding is_rule is_setting is_post
returns-else-among-2 c = grind (arith, common_steps)
