-- `names` meets its contract. The loop's invariant: the names of the first i settings were written.
use Rattle.print_room.specs.Wrote.{Wrote}
use Rattle.program_salvage.specs.Closed.{closed_names}
use Rattle.program_salvage.proofs.names.Given as goal

abbrev pub invariant-loop-i : goal.invariant-loop-i
invariant-loop-i l = Wrote l.initial.out l.to (closed_names l.i l.marks) l.out l.at
