-- `reach` meets its contract: its first line, and the lines of the plan that its bytes are.
use native.Mathlib.Omega.{arith}
use Rattle.print_room.proofs.Writing.{wrote_then}
use Rattle.print_answer.proofs.Lengths.{height-text-length, whole-shown, whole-readable}
use Rattle.print_answer.proofs.Fitted.{prints}
use Rattle.print_answer.proofs.reach.Goals as goal

pub lines-requires : goal.lines-requires
lines-requires c =
    let pre = c.requires in
    whole-readable pre.0.0 pre.0.1 pre.0.2 pre.1
    (omega (arith, c.reach_line-to.ensures.next_place, height-text-length c.args.height (omega arith)))

pub returns : goal.returns
returns c p whole lettered = prints (wrote_then c.reach_line-to.ensures (c.lines.ensures p (whole-shown p whole lettered)).wrote)
