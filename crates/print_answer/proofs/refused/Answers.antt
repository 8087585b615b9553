-- `refused` meets its contract: the line, and its end.
use native.Mathlib.Omega.{arith}
use Rattle.print_room.proofs.Writing.{wrote_then}
use Rattle.print_answer.proofs.Fitted.{prints}
use Rattle.print_answer.proofs.Lengths.{refused-at-length}
use Rattle.print_answer.proofs.refused.Goals as goal

pub put-requires : goal.put-requires
put-requires c = record { below = omega (arith, c.refused_at-to.ensures.next_place, refused-at-length c.args.number c.args.place (omega arith) (omega arith)) }

pub returns : goal.returns
returns c = prints (wrote_then c.refused_at-to.ensures c.put.ensures)
