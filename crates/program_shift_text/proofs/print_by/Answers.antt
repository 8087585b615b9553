-- `print_by` hands out no byte that is not there: a text that is printed fits its room.
use mathlib.Core.Path.{sym}
use native.Mathlib.Omega.{arith}
use lib.Seq.{length-take-le}
use Rattle.program_shift_text.proofs.Fits.{print_most}
use Rattle.program_shift_text.proofs.print_by.Goals as goal

pub slice_bounds-deliver-end : goal.slice_bounds-deliver-end
slice_bounds-deliver-end c =
    let most = print_most c.args.shift.now _ _ _ c.print.ensures _ c.in-Ok.is in
    omega (arith, most, c.requires, c.print.auto.out)

pub slice_bounds-deliver-end-in-Ok : goal.slice_bounds-deliver-end-in-Ok
slice_bounds-deliver-end-in-Ok c =
    let most = print_most c.args.shift.now _ _ _ c.print.ensures _ c.in-Ok.is in
    sym (length-take-le _ _ (omega (arith, most, c.requires, c.print.auto.out)))
