-- `finder_ranks::round::sweep` meets its contract: the part passed was swept, and one state more makes a longer part.
use Rattle.finder_ranks.proofs.Sweeps.{swept_on}
use Rattle.finder_ranks.proofs.round.sweep.Goals as goal

pub loop-k-preserved : goal.loop-k-preserved
loop-k-preserved c = swept_on c.requires.0.high c.loop-k.invariant c.visit_if-found.ensures
