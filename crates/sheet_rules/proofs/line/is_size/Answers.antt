use Rattle.std.proofs.Common.{arith}
use Rattle.std.proofs.lemmas.Grind.{common_steps}
use Rattle.sheet_rules.specs.Forms.{is_size}
use Rattle.sheet_rules.proofs.line.is_size.Goals as goal

pub returns-then-peek-eq32 : goal.returns-then-peek-eq32
unfolding is_size
returns-then-peek-eq32 c = grind (arith, common_steps)

pub returns-else-peek-eq32 : goal.returns-else-peek-eq32
unfolding is_size
returns-else-peek-eq32 c = grind (arith, common_steps)
