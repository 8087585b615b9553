-- `write` meets its contract: the step's byte, then what follows it; each step leads to a lower entry of the rank table, which is the measure.
use lib.ListN.{get_or}
use Rattle.finder.proofs.written.+write.Given as goal

abbrev pub decreases-write : goal.decreases-write
decreases-write l = get_or l.ranks.now l.k 0
