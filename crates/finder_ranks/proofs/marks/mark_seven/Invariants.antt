-- `finder_ranks::marks::mark_seven` meets its contract. The loop has marked the states with the lowest digits.
use Prim.Native.Nat.{◌+◌, ◌*◌}
use Rattle.finder_ranks.specs.Marks.{Stored, mark_at}
use Rattle.finder_ranks.proofs.marks.mark_seven.Given as goal

abbrev pub invariant-loop-digit : goal.invariant-loop-digit
invariant-loop-digit l = Stored (mark_at l.n l.made l.learnt) (l.rest * 7) (l.rest * 7 + l.digit) l.initial.ranks l.ranks
