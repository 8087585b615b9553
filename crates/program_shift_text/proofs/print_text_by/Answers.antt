-- `print_text_by` hands on no byte that is not there: a shift that is read fits its room.
use mathlib.Core.Path.{sym}
use native.Mathlib.Omega.{arith}
use lib.Seq.{length-take-le}
use Rattle.program_shift_text.proofs.Fits.{read-most}
use Rattle.program_shift_text.proofs.print_text_by.Goals as goal

pub slice_bounds-print_bytes-end : goal.slice_bounds-print_bytes-end
slice_bounds-print_bytes-end c =
    let most = read-most c.args.shift.now _ _ _ c.read.ensures _ c.in-Ok.is in
    omega (arith, most, c.requires, c.read.auto.room)

pub slice_bounds-print_bytes-end-in-Ok : goal.slice_bounds-print_bytes-end-in-Ok
slice_bounds-print_bytes-end-in-Ok c =
    let most = read-most c.args.shift.now _ _ _ c.read.ensures _ c.in-Ok.is in
    sym (length-take-le _ _ (omega (arith, most, c.requires, c.read.auto.room)))
