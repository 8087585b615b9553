-- `ruled` meets its contract: the table is written, and its mark.
use Rattle.std.proofs.Common.{refl, arith, ◌*◌, ◌+◌, ◌-◌}
use Rattle.ground.proofs.Lists.{put_sets}
use Rattle.sheet_rules.specs.Turns.{ruled_desk}
use Rattle.sheet_rules.proofs.rights.ruled.Goals as goal

pub returns : goal.returns
unfolding ruled_desk
returns c =
    let d = c.args.desk in
    let at = 16 * c.args.slot in
    rw (put_sets at (at + 16 - at) d.rights _ c.args.table.now c.copy_from_slice.ensures.after (omega arith) (omega arith)) refl
