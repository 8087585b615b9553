-- `finder_ranks::marks::mark` meets its contract. The loop has marked the states below seven times the rest.
use Prim.Native.Nat.{◌*◌}
use Rattle.finder_ranks.specs.Marks.{Stored, mark_at}
use Rattle.finder_ranks.proofs.marks.mark.Given as goal

abbrev pub invariant-loop-rest : goal.invariant-loop-rest
invariant-loop-rest l = Stored (mark_at l.n l.made l.learnt) 0 (l.rest * 7) l.initial.ranks l.ranks
