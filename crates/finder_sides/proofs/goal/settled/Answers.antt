-- `finder_sides::goal::settled` meets its contract: the columns of a learn formula, filled.
use lib.ListN.{drop}
use Rattle.std.proofs.Common.{rules}
use Rattle.finder_sides.proofs.GoalLaws.{settled-table}
use Rattle.finder_sides.proofs.goal.settled.Goals as goal

pub returns : goal.returns
returns c = settled-table c.fill.ensures (drop c.args.from c.args.learn.now) (λ v h. let e = c.columns_of.ensures v h in search rules)
