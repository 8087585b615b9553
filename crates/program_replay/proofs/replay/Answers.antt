-- `replay` hands out no byte that is not there: what is printed of a shift fits its room, since every byte of the shift is one.
use Rattle.std.proofs.Common.{Result, Ok, arith, sym, ap, subst, ◌∙◌, ◌≤◌}
use lib.Seq.{length-take-le}
use Rattle.station_print.specs.declared.ReplayTold.{ReplayTold}
use Rattle.station_print.specs.declared.ReplayFault.{ReplayFault}
use Rattle.station_print.proofs.Theorems.{text_bytes, printed-most}
use Rattle.program_replay.proofs.replay.Goals as goal
use Rattle.program_replay.proofs.replay.Goals.{In-Ok-Done, In-Ok-Stopped}

done-most : (c : In-Ok-Done) → c.in-Ok-Done.length ≤ 151
done-most c =
    let a = c.args in
    let printed = printed-most a.book.now a.start.now a.shift.now (λ i. omega (arith, c.type_inv.shift i)) _ _ _ c.print-told.ensures in
    let is = rw c.in-Ok-Done.is at c.in-Ok-Done.field-0-is in
    subst (λ (r : Result ReplayTold ReplayFault). text_bytes r ≤ 151) (c.in-Ok-Done.is ∙ ap Ok is) printed

stopped-most : (c : In-Ok-Stopped) → c.in-Ok-Stopped.length ≤ 151
stopped-most c =
    let a = c.args in
    let printed = printed-most a.book.now a.start.now a.shift.now (λ i. omega (arith, c.type_inv.shift i)) _ _ _ c.print-told.ensures in
    let is = rw c.in-Ok-Stopped.is at c.in-Ok-Stopped.field-0-is in
    subst (λ (r : Result ReplayTold ReplayFault). text_bytes r ≤ 151) (c.in-Ok-Stopped.is ∙ ap Ok is) printed

pub slice_bounds-out-end : goal.slice_bounds-out-end
slice_bounds-out-end c =
    let most = done-most (goal.at.slice_bounds-out-end c).In-Ok-Done in
    omega (arith, most, c.print-told.auto.out)

pub slice_bounds-deliver-end : goal.slice_bounds-deliver-end
slice_bounds-deliver-end c =
    let most = done-most (goal.at.slice_bounds-deliver-end c).In-Ok-Done in
    sym (length-take-le _ _ (omega (arith, most, c.print-told.auto.out)))

pub slice_bounds-out-end-in-Ok-Stopped : goal.slice_bounds-out-end-in-Ok-Stopped
slice_bounds-out-end-in-Ok-Stopped c =
    let most = stopped-most (goal.at.slice_bounds-out-end-in-Ok-Stopped c).In-Ok-Stopped in
    omega (arith, most, c.print-told.auto.out)

pub slice_bounds-deliver_fault-end : goal.slice_bounds-deliver_fault-end
slice_bounds-deliver_fault-end c =
    let most = stopped-most (goal.at.slice_bounds-deliver_fault-end c).In-Ok-Stopped in
    sym (length-take-le _ _ (omega (arith, most, c.print-told.auto.out)))
