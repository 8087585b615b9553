-- `copy_run` meets its contract: after i turns the first i bytes of the part stand in the room.
use mathlib.Core.Path.{◌≡◌}
use lib.ListN.{length, take, drop}
use lib.Seq.{sets}
use Rattle.ground.proofs.bytes.copy_run.Given as goal

abbrev pub invariant-loop-i : goal.invariant-loop-i
invariant-loop-i l = (length l.room ≡ length l.initial.room) × (l.room ≡ sets l.initial.room l.to (take l.i (take l.count (drop l.from l.source))))
