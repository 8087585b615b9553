-- `refused_second` meets its contract: the line, a space, the number, and the line's end.
use native.Mathlib.Omega.{arith}
use Prim.Native.Nat.{◌≤◌}
use lib.ListN.{length}
use Rattle.print_room.specs.Decimal.{decimal}
use Rattle.print_room.proofs.Decimals.{decimal-length}
use Rattle.print_room.proofs.Writing.{wrote_then}
use Rattle.print_answer.specs.Printed.{refused_at}
use Rattle.print_answer.proofs.Fitted.{prints}
use Rattle.print_answer.proofs.Lengths.{refused-at-length}
use Rattle.print_answer.proofs.refused_second.Goals as goal
use Rattle.print_answer.proofs.refused_second.Goals.{After-refused_at-to}

-- how long the parts are
parts : (c : After-refused_at-to) → (length (refused_at c.args.number c.args.place) ≤ 49) × (length (decimal c.args.second) ≤ 20)
parts c = (refused-at-length c.args.number c.args.place (omega arith) (omega arith), decimal-length 19 c.args.second (omega arith))

pub put-to-requires : goal.put-to-requires
put-to-requires c =
    let d = parts (goal.at.put-to-requires c).After-refused_at-to in
    record { below = omega (arith, c.refused_at-to.ensures.next_place, d.0, d.1) }

pub number-to-requires : goal.number-to-requires
number-to-requires c =
    let d = parts (goal.at.number-to-requires c).After-refused_at-to in
    record { below = omega (arith, c.refused_at-to.ensures.next_place, c.put-to.ensures.next_place, d.0, d.1) }

pub put-requires : goal.put-requires
put-requires c =
    let d = parts (goal.at.put-requires c).After-refused_at-to in
    record { below = omega (arith, c.refused_at-to.ensures.next_place, c.put-to.ensures.next_place, c.number-to.ensures.next_place, d.0, d.1) }

pub returns : goal.returns
returns c = prints (wrote_then (wrote_then (wrote_then c.refused_at-to.ensures c.put-to.ensures) c.number-to.ensures) c.put.ensures)
