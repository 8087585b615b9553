-- `reach_line` meets its contract: its three pieces one after the other; a height has at most three digits.
use native.Mathlib.Omega.{arith}
use Rattle.print_room.proofs.Decimals.{decimal-length}
use Rattle.print_room.proofs.Writing.{wrote_then}
use Rattle.print_answer.proofs.reach_line.Goals as goal

pub number-to-requires : goal.number-to-requires
number-to-requires c = record { below = omega (arith, c.word-to.ensures.next_place, decimal-length 2 c.args.height (omega arith)) }

pub put-requires : goal.put-requires
put-requires c =
    record {
      below
          = omega (
            arith,
            c.word-to.ensures.next_place,
            c.number-to.ensures.next_place,
            decimal-length 2 c.args.height (omega arith),
          );
    }

pub returns : goal.returns
returns c = wrote_then (wrote_then c.word-to.ensures c.number-to.ensures) c.put.ensures
