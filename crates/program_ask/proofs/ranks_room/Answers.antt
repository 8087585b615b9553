-- `ranks_room` has the length of its type.
use mathlib.Core.Path.{sym}
use Prim.Native.Nat.{ℕ}
use lib.ListN.{length-replicate}
use Rattle.program_ask.proofs.ranks_room.Goals as goal

pub returns : goal.returns
returns c = sym (length-replicate {A = ℕ} 1647086 0)
