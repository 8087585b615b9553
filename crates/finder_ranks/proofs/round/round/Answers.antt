-- `finder_ranks::round::round` meets its contract: the blocks passed were swept, and one block more makes a longer part.
use Rattle.finder_ranks.proofs.Sweeps.{swept_on}
use Rattle.finder_ranks.proofs.round.round.Goals as goal

pub loop-at-preserved : goal.loop-at-preserved
loop-at-preserved c = (c.end_of-end.ensures.1, swept_on c.requires.0.high c.loop-at.invariant.1 c.block-found.ensures)
