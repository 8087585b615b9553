-- `is_then` meets its contract, test by test.
use Rattle.std.proofs.Common.{arith}
use Rattle.std.proofs.lemmas.Grind.{common_steps}
use Rattle.sheet_legs.specs.Legs.{is_then}
use Rattle.sheet_legs.proofs.is_then.Goals as goal

pub returns-then-line-eq4 : goal.returns-then-line-eq4
unfolding is_then
returns-then-line-eq4 c = grind (arith, common_steps)

pub returns-else-line-eq4 : goal.returns-else-line-eq4
unfolding is_then
returns-else-line-eq4 c = grind (arith, common_steps)
