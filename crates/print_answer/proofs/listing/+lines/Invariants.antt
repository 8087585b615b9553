-- `lines` meets its contract: what the plan's first byte names tells its form, and each part of it begins further on, so that fewer bytes
-- are left, which is the measure.
use Prim.Native.Nat.{◌-◌}
use lib.ListN.{length}
use Rattle.print_answer.proofs.listing.+lines.Given as goal

abbrev pub decreases-lines : goal.decreases-lines
decreases-lines l = length l.plan.now - l.at
