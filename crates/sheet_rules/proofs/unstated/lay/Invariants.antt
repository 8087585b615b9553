-- `lay` meets its contract: one place after the other.
use Rattle.sheet_rules.specs.Turns.{Laid}
use Rattle.sheet_rules.proofs.unstated.lay.Given as goal

abbrev pub invariant-loop-slot : goal.invariant-loop-slot
invariant-loop-slot l = Laid l.n l.m l.looks l.sets l.slot l.rights
