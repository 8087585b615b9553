-- `within` meets its contract: the loop has found no bit from 2^n up to v.
use lib.ListN.{drop}
use Rattle.ground.proofs.Table.{WithinTo}
use Rattle.ground.proofs.within.Given as goal

abbrev pub invariant-loop-v : goal.invariant-loop-v
invariant-loop-v l = WithinTo l.n (drop l.from l.bytes) l.v
