-- `write_value` meets its contract, by the value.
use mathlib.Core.Path.{sym, ap}
use Rattle.print_room.proofs.Writing.{wrote_as, ends_as}
use Rattle.station_print.specs.Settings.{on_off}
use Rattle.station_print.proofs.settings.write_value.Goals as goal

pub word-requires : goal.word-requires
word-requires c = ends_as (ap on_off c.if-on.true) c.requires

pub returns-then-on : goal.returns-then-on
returns-then-on c = wrote_as (ap on_off (sym c.if-on.true)) c.word.ensures

pub word-requires-2 : goal.word-requires-2
word-requires-2 c = ends_as (ap on_off c.if-on.false) c.requires

pub returns : goal.returns
returns c = wrote_as (ap on_off (sym c.if-on.false)) c.word-2.ensures
