-- `print_text` meets its contract: the room holds all bytes of the shift's text.
use mathlib.Core.Path.{sym}
use Prim.Native.Nat.{ℕ}
use lib.ListN.{length-replicate}
use lib.Seq.{length-take-le}
use Rattle.station_print.proofs.PrintLaws.{text-refused, count_fits, text-readable, text-told}
use Rattle.station_print.proofs.print_text.Goals as goal

pub slice_bounds-room-end : goal.slice_bounds-room-end
slice_bounds-room-end c = count_fits c.args.shift.now _ _ _ c.read.ensures _ c.in-Ok.is (length-replicate {A = ℕ} 419430 0)

pub slice_bounds-print_bytes-end : goal.slice_bounds-print_bytes-end
slice_bounds-print_bytes-end c = sym (length-take-le _ _ (count_fits c.args.shift.now _ _ _ c.read.ensures _ c.in-Ok.is (length-replicate {A = ℕ} 419430 0)))

pub print_bytes-requires : goal.print_bytes-requires
print_bytes-requires c = (c.requires, text-readable c.args.shift.now _ _ _ c.read.ensures _ c.in-Ok.is (length-replicate {A = ℕ} 419430 0))

pub returns-in-Err : goal.returns-in-Err
returns-in-Err c = text-refused c.args.shift.now _ _ _ c.read.ensures _ _ _ _ _ c.in-Err.is

pub returns-in-Ok : goal.returns-in-Ok
returns-in-Ok c =
    text-told c.args.shift.now _ _ _ c.read.ensures _ c.in-Ok.is (length-replicate {A = ℕ} 419430 0) _ _ _ _ _ _
    c.print_bytes.ensures
