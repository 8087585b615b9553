-- `first_height` meets its contract: at each height the start's entry bars the lower ones; a height fails, and the entry has grown.
use Prim.Native.Nat.{◌≤◌}
use lib.ListN.{get_or}
use Rattle.finder_plain.specs.Asked.{asked_system}
use Rattle.finder_plain.specs.Entries.{Searches}
use Rattle.finder_plain.proofs.finding.first_height.Given as goal

abbrev pub invariant-loop-height : goal.invariant-loop-height
invariant-loop-height l = Searches l.asked.n (asked_system l.asked) l.start l.entries × (l.height ≤ get_or l.entries l.start 0)
