-- `reached` meets its contract: its two lines one after the other.
use Rattle.print_room.proofs.Writing.{wrote_then, ends-left, ends-right}
use Rattle.station_print.specs.Printed.{done_line, now_line, reached_text}
use Rattle.station_print.proofs.reached.Goals as goal

pub done_line-to-requires : goal.done_line-to-requires
unfolding reached_text
done_line-to-requires c =
    let a = c.args in
    ends-left (done_line a.running.count) (now_line a.n a.running.present.0) c.requires.1

pub now_line-requires : goal.now_line-requires
unfolding reached_text
now_line-requires c = (c.requires.0, ends-right c.done_line-to.ensures c.requires.1)

pub returns : goal.returns
unfolding reached_text
returns c = wrote_then c.done_line-to.ensures c.now_line.ensures
