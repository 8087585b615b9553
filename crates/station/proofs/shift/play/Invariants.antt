-- `play` meets its contract: the records before this one were done.
use Rattle.std.proofs.Common.{◌≡◌}
use Rattle.station.specs.Shift.{Reached}
use Rattle.station.proofs.shift.play.Given as goal

abbrev pub invariant-loop-at : goal.invariant-loop-at
invariant-loop-at l = (l.running.count ≡ l.at) × Reached l.n l.m l.book l.fn.first.0 l.shift l.running
