-- `name` meets its contract: what stands before the setting, `~` where it is off, and its letter.
use mathlib.Core.Path.{sym, ap}
use mathlib.Core.List.{[], ◌∷◌}
use Rattle.ground.specs.Text.{bytes}
use Rattle.print_room.proofs.Writing.{wrote_then, ends-left, ends-right, wrote_as, ends_as}
use Rattle.station_print.specs.Settings.{between, setting_name}
use Rattle.station_print.proofs.settings.name.Goals as goal

pub write_between-to-requires : goal.write_between-to-requires
write_between-to-requires c = ends-left (between c.args.i (bytes " ")) _ c.requires.1

pub put-requires : goal.put-requires
put-requires c = ends-right c.write_between-to.ensures (ends_as (ap (setting_name c.args.i) c.if-on.true) c.requires.1)

pub returns-then-on : goal.returns-then-on
returns-then-on c = wrote_as (ap (setting_name c.args.i) (sym c.if-on.true)) (wrote_then c.write_between-to.ensures c.put.ensures)

pub put-to-requires : goal.put-to-requires
put-to-requires c = ends-left (126 ∷ []) _ (ends-right c.write_between-to.ensures (ends_as (ap (setting_name c.args.i) c.if-on.false) c.requires.1))

pub put-requires-2 : goal.put-requires-2
put-requires-2 c =
    ends-right c.put-to.ensures
    (ends-right c.write_between-to.ensures (ends_as (ap (setting_name c.args.i) c.if-on.false) c.requires.1))

pub returns : goal.returns
returns c =
    wrote_as (ap (setting_name c.args.i) (sym c.if-on.false))
    (wrote_then c.write_between-to.ensures (wrote_then c.put-to.ensures c.put-2.ensures))
