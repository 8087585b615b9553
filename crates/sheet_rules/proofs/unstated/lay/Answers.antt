-- `lay` meets its contract: one place after the other.
use Rattle.std.proofs.Common.{arith, ◌*◌, ◌∙◌, ap}
use lib.Seq.{sets}
use Rattle.ground.proofs.Lists.{put_sets}
use Rattle.sheet_rules.proofs.HoldLaws.{laid_more}
use Rattle.sheet_rules.proofs.unstated.lay.Goals as goal

pub loop-slot-preserved : goal.loop-slot-preserved
loop-slot-preserved c =
    let a = c.args in
    let l = c.loop-slot in
    laid_more a.n a.m a.looks a.sets c.requires.0 c.requires.1 l.slot l.rights _ (omega arith) l.invariant
    (put_sets (16 * l.slot) _ l.rights _ c.unstated_at-table.result c.copy_from_slice.ensures.after (omega arith) (omega arith)
    ∙ ap (λ t. sets l.rights (16 * l.slot) t) c.unstated_at-table.ensures)
