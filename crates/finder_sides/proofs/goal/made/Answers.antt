-- `finder_sides::goal::made` meets its contract: the columns of the make formula, filled.
use mathlib.Core.Path.{subst}
use Rattle.std.proofs.Common.{rules}
use Rattle.finder_sides.proofs.GoalLaws.{made_table}
use Rattle.finder_sides.specs.Tables.{Made}
use Rattle.finder_sides.proofs.goal.made.Goals as goal

pub returns : goal.returns
returns c =
    subst (λ n. Made n c.args.make.now c.fill.result) c.up_to_seven-settings.ensures
    (made_table c.fill.ensures c.args.make.now (λ v h. let e = c.columns_of.ensures v h in search rules))
