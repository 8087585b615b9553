-- `knowledge_judging::judging::walk` meets its contract. The loop's invariant: the table has the value with every part of the unknown settings below `some`.
-- The measure is what is left below 128, since each turn goes up.
use Prim.Native.Nat.{◌-◌}
use lib.ListN.{drop}
use Rattle.knowledge_judging.proofs.WalkLaws.{WalkedTo}
use Rattle.knowledge_judging.proofs.judging.walk.Given as goal

abbrev pub invariant-loop-side : goal.invariant-loop-side
invariant-loop-side l = WalkedTo l.value (drop l.from l.bytes) l.unknown l.values l.some

abbrev pub decreases-loop-side : goal.decreases-loop-side
decreases-loop-side l = 128 - l.some
