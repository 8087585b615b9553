-- `number` meets its contract: a number's decimal is that of its tenth, which is the measure's fall, and its last digit.
use native.Mathlib.Omega.{arith}
use Rattle.print_room.proofs.Decimals.{decimal-small, decimal-more}
use Rattle.print_room.proofs.Writing.{ends-left, ends-right, wrote_then}
use Rattle.print_room.proofs.+number.Goals as goal

pub put-requires : goal.put-requires
put-requires t c = rw (decimal-small c.args.n c.if-n-lt10.true) at c.requires

pub returns-then-n-lt10 : goal.returns-then-n-lt10
returns-then-n-lt10 t c = rw (decimal-small c.args.n c.if-n-lt10.true) c.put.ensures

pub number-next-requires : goal.number-next-requires
number-next-requires t c =
    let pre = c.requires in
    (omega (arith, c.decreases), ends-left _ _ (rw (decimal-more c.args.n c.if-n-lt10.false) at pre))

pub put-requires-2 : goal.put-requires-2
put-requires-2 t c = ends-right c.number-next.ensures (rw (decimal-more c.args.n c.if-n-lt10.false) at c.requires)

pub returns : goal.returns
returns t c = rw (decimal-more c.args.n c.if-n-lt10.false) (wrote_then c.number-next.ensures c.put-2.ensures)
