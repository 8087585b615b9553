-- `now_line` meets its contract: its three pieces one after the other.
use mathlib.Core.List.{[], ◌∷◌, ◌++◌}
use Rattle.ground.specs.Text.{bytes}
use Rattle.print_room.proofs.Writing.{wrote_then, ends-left, ends-right}
use Rattle.station_print.specs.Settings.{setting_names}
use Rattle.station_print.proofs.now_line.Goals as goal

pub names-to-requires : goal.names-to-requires
names-to-requires c =
    let a = c.args in
    (c.requires.0, ends-right c.word-to.ensures (ends-left (bytes "now " ++ setting_names a.n a.present) (10 ∷ []) c.requires.1))

pub put-requires : goal.put-requires
put-requires c = ends-right (wrote_then c.word-to.ensures c.names-to.ensures) c.requires.1

pub returns : goal.returns
returns c = wrote_then (wrote_then c.word-to.ensures c.names-to.ensures) c.put.ensures
