-- `finder_ranks::round::round` meets its contract: the blocks passed were swept, and one block more makes a longer part.
use Prim.Native.Nat.{◌-◌, ◌≤◌}
use Rattle.finder_ranks.specs.Round.{Swept}
use Rattle.finder_ranks.proofs.round.round.Given as goal

abbrev pub invariant-loop-at : goal.invariant-loop-at
invariant-loop-at l = (l.at ≤ l.size) × Swept l.n l.set l.look l.h 0 l.at l.initial.ranks l.ranks l.found

abbrev pub decreases-loop-at : goal.decreases-loop-at
decreases-loop-at l = l.size - l.at
