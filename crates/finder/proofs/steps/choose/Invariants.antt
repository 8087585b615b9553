-- `choose` meets its contract: the loop has found no act of the pairs below `pair` that leads lower.
use Rattle.plan.specs.Plans.{System}
use Rattle.finder.specs.Tables.{TablesTell}
use Rattle.finder.proofs.StepLaws.{NoneTo}
use Rattle.finder.proofs.steps.choose.Given as goal

abbrev pub invariant-loop-pair : goal.invariant-loop-pair
invariant-loop-pair l = (S : System) → TablesTell l.n l.set l.look l.ranks S → NoneTo S l.ranks l.k l.pair
