-- `length` meets its contract: each step leads to a lower entry of the rank table, which is the measure.
use lib.ListN.{get_or}
use Rattle.finder.proofs.written.+length.Given as goal

abbrev pub decreases-length : goal.decreases-length
decreases-length l = get_or l.ranks.now l.k 0
