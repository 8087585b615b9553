-- `works_below` and `works_by` meet their contracts: a search from a state asks each of its tries, and a try searches from its outcomes at the height
-- before. The measures are 2 × h and 2 × h + 1.
use Prim.Native.Nat.{◌+◌, ◌*◌}
use Rattle.finder_plain.specs.Asked.{asked_system}
use Rattle.finder_plain.proofs.SearchLaws.{Trying}
use Rattle.finder_plain.proofs.asked.Asked.+works_below_works_by.Given as goal

abbrev pub decreases-works_below : goal.decreases-works_below
decreases-works_below l = 2 * l.h

abbrev pub decreases-works_by : goal.decreases-works_by
decreases-works_by l = 2 * l.h + 1

abbrev pub invariant-works_below-loop-number : goal.invariant-works_below-loop-number
invariant-works_below-loop-number l = Trying l.self.n (asked_system l.self) l.k l.h l.initial.entries l.entries l.number
