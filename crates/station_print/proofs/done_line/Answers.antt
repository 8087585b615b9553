-- `done_line` meets its contract: its three pieces one after the other.
use mathlib.Core.List.{[], ◌∷◌, ◌++◌}
use Rattle.ground.specs.Text.{bytes}
use Rattle.print_room.specs.Decimal.{decimal}
use Rattle.print_room.proofs.Writing.{wrote_then, ends-left, ends-right}
use Rattle.station_print.proofs.done_line.Goals as goal

pub number-to-requires : goal.number-to-requires
number-to-requires c = ends-right c.word-to.ensures (ends-left (bytes "done " ++ decimal c.args.count) (10 ∷ []) c.requires)

pub put-requires : goal.put-requires
put-requires c = ends-right (wrote_then c.word-to.ensures c.number-to.ensures) c.requires

pub returns : goal.returns
returns c = wrote_then (wrote_then c.word-to.ensures c.number-to.ensures) c.put.ensures
