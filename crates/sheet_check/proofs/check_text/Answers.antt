-- `check_text` meets its contract: the room holds all bytes of the plan's text, and the plan check judges them.
use Rattle.std.proofs.Common.{ℕ, sym, Ok, Err}
use lib.Seq.{length-take-le}
use lib.ListN.{length-replicate}
use Rattle.sheet_ask.specs.Inner.{learn_in}
use Rattle.sheet_check.proofs.CheckLaws.{text-refused, count_fits, text-judged}
use Rattle.sheet_check.proofs.check_text.Goals as goal

pub returns-in-Err : goal.returns-in-Err
returns-in-Err c = text-refused c.args.plan.now _ _ _ _ _ _ c.in-Err.ensures

pub slice_bounds-room-end : goal.slice_bounds-room-end
slice_bounds-room-end c = count_fits c.args.plan.now _ _ c.in-Ok.count c.in-Ok.ensures (length-replicate {A = ℕ} 74897 0)

pub slice_bounds-check-end : goal.slice_bounds-check-end
slice_bounds-check-end c = sym (length-take-le _ _ (count_fits c.args.plan.now _ _ c.in-Ok.count c.in-Ok.ensures (length-replicate {A = ℕ} 74897 0)))

pub returns-in-Ok-check : goal.returns-in-Ok-check
unfolding learn_in
returns-in-Ok-check c =
    text-judged c.args.plan.now _ _ c.in-Ok.count c.in-Ok.ensures (length-replicate {A = ℕ} 74897 0) _ _ _ (Ok tt) (rw c.goal.ensures at c.in-Ok-check.ensures)

pub returns-in-Err-check : goal.returns-in-Err-check
unfolding learn_in
returns-in-Err-check c =
    text-judged c.args.plan.now _ _ c.in-Ok.count c.in-Ok.ensures (length-replicate {A = ℕ} 74897 0) _ _ _ (Err c.in-Err-check.why)
    (rw c.goal.ensures at c.in-Err-check.ensures)
