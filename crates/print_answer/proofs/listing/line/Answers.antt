-- `line` meets its contract: its four pieces one after the other.
use Rattle.print_room.proofs.Writing.{wrote_then}
use Rattle.print_answer.proofs.listing.line.Goals as goal

pub returns : goal.returns
returns c = wrote_then (wrote_then (wrote_then c.number-to.ensures c.put-to.ensures) c.word-to.ensures) c.put.ensures
