-- `setting_word` meets its contract: its four pieces one after the other.
use mathlib.Core.List.{[], ◌∷◌, ◌++◌}
use Prim.Native.Nat.{◌+◌}
use Rattle.ground.specs.Text.{bytes}
use Rattle.print_room.proofs.Writing.{wrote_then, ends-left, ends-right}
use Rattle.station_print.specs.Settings.{between, verb, on_off}
use Rattle.station_print.proofs.settings.setting_word.Goals as goal

pub write_between-to-requires : goal.write_between-to-requires
write_between-to-requires c = ends-left (between c.args.i (bytes ", ")) _ c.requires.1

pub put-to-requires : goal.put-to-requires
put-to-requires c =
    let a = c.args in
    ends-left ((97 + a.i) ∷ []) (verb a.i ++ on_off a.on) (ends-right c.write_between-to.ensures c.requires.1)

pub write_verb-to-requires : goal.write_verb-to-requires
write_verb-to-requires c =
    let a = c.args in
    ends-left (verb a.i) (on_off a.on) (ends-right c.put-to.ensures (ends-right c.write_between-to.ensures c.requires.1))

pub write_value-requires : goal.write_value-requires
write_value-requires c = ends-right c.write_verb-to.ensures (ends-right c.put-to.ensures (ends-right c.write_between-to.ensures c.requires.1))

pub returns : goal.returns
returns c = wrote_then c.write_between-to.ensures (wrote_then c.put-to.ensures (wrote_then c.write_verb-to.ensures c.write_value.ensures))
