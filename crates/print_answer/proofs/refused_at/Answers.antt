-- `refused_at` meets its contract: its four pieces one after the other; a number of 64 bits has at most 20 digits, so places stay small.
use native.Mathlib.Omega.{arith}
use Prim.Native.Nat.{◌≤◌}
use lib.ListN.{length}
use Rattle.print_room.specs.Decimal.{decimal}
use Rattle.print_room.proofs.Decimals.{decimal-length}
use Rattle.print_room.proofs.Writing.{wrote_then}
use Rattle.print_answer.proofs.refused_at.Goals as goal

pub number-to-requires : goal.number-to-requires
number-to-requires c =
    let digits : (length (decimal c.args.number) ≤ 20) × (length (decimal c.args.place) ≤ 20) =
    (decimal-length 19 c.args.number (omega arith), decimal-length 19 c.args.place (omega arith)) in
    let d = digits in
    record { below = omega (arith, c.word-to.ensures.next_place, d.0, d.1) }

pub put-to-requires : goal.put-to-requires
put-to-requires c =
    let digits : (length (decimal c.args.number) ≤ 20) × (length (decimal c.args.place) ≤ 20) =
    (decimal-length 19 c.args.number (omega arith), decimal-length 19 c.args.place (omega arith)) in
    let d = digits in
    record { below = omega (arith, c.word-to.ensures.next_place, c.number-to.ensures.next_place, d.0, d.1) }

pub number-requires : goal.number-requires
number-requires c =
    let digits : (length (decimal c.args.number) ≤ 20) × (length (decimal c.args.place) ≤ 20) =
    (decimal-length 19 c.args.number (omega arith), decimal-length 19 c.args.place (omega arith)) in
    let d = digits in
    record {
      below = omega (arith, c.word-to.ensures.next_place, c.number-to.ensures.next_place, c.put-to.ensures.next_place, d.0, d.1);
    }

pub returns : goal.returns
returns c = wrote_then (wrote_then (wrote_then c.word-to.ensures c.number-to.ensures) c.put-to.ensures) c.number.ensures
