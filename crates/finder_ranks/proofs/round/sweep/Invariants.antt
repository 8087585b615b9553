-- `finder_ranks::round::sweep` meets its contract: the part passed was swept, and one state more makes a longer part.
use Rattle.finder_ranks.specs.Round.{Swept}
use Rattle.finder_ranks.proofs.round.sweep.Given as goal

abbrev pub invariant-loop-k : goal.invariant-loop-k
invariant-loop-k l = Swept l.n l.set l.look l.h l.at l.k l.initial.ranks l.ranks l.found
