-- `finder_ranks::marks::unmark` meets its contract. The loop has taken away the marks below k where the second leg has no rank.
use lib.ListN.{get_or}
use Rattle.finder_ranks.specs.Marks.{Stored, mark_then}
use Rattle.finder_ranks.proofs.marks.unmark.Given as goal

abbrev pub invariant-loop-k : goal.invariant-loop-k
invariant-loop-k l = Stored (λ j. mark_then (get_or l.ranks2 j 0) (get_or l.initial.ranks j 0)) 0 l.k l.initial.ranks l.ranks
