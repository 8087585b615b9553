-- `finder_sides::told::told_by` meets its contract. The loop has read the lowest settings, all of them told.
use Rattle.finder_sides.proofs.ToldLaws.{ToldTo}
use Rattle.finder_sides.proofs.told.told_by.Given as goal

abbrev pub invariant-loop : goal.invariant-loop
invariant-loop l = ToldTo l.side l.counter l.rest l.power l.value l.weight
