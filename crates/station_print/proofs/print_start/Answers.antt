-- `print_start` meets its contract, by what START says.
use Rattle.station_print.proofs.PrintLaws.{start_nothing, start_settings}
use Rattle.station_print.proofs.print_start.Goals as goal

pub returns-in_default : goal.returns-in_default
returns-in_default c =
    let a = c.args in
    start_nothing a.n a.book.now a.start.now a.shift.now a.out.now _ c.read_start.ensures c.in_default.is

pub returns : goal.returns
returns c =
    let a = c.args in
    start_settings a.n a.book.now a.start.now a.shift.now a.out.now _ c.read_start.ensures _ c.in-Some.is _ _ c.print_shift.ensures
