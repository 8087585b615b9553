-- `learning` meets its contract: the table is written, and counted.
use Rattle.std.proofs.Common.{refl, arith, ◌*◌, ◌+◌, ◌-◌}
use Rattle.ground.proofs.Lists.{put_sets}
use Rattle.sheet_question.specs.Places.{learn_desk}
use Rattle.sheet_question.proofs.line.learning.Goals as goal

pub returns : goal.returns
unfolding learn_desk
returns c =
    let d = c.args.desk in
    let at = 16 * d.asks in
    rw (put_sets at (at + 16 - at) d.learn _ c.args.table.now c.copy_from_slice.ensures.after (omega arith) (omega arith)) refl
