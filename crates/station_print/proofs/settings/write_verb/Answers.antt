-- `write_verb` meets its contract, by whether it is the first setting.
use mathlib.Core.Path.{sym, ap}
use Rattle.print_room.proofs.Writing.{wrote_as, ends_as}
use Rattle.station_print.specs.Settings.{verb}
use Rattle.station_print.proofs.SettingsLaws.{verb-later}
use Rattle.station_print.proofs.settings.write_verb.Goals as goal

pub word-requires : goal.word-requires
word-requires c = ends_as (ap verb c.if-i-eq0.true) c.requires

pub returns-then-i-eq0 : goal.returns-then-i-eq0
returns-then-i-eq0 c = wrote_as (sym (ap verb c.if-i-eq0.true)) c.word.ensures

pub word-requires-2 : goal.word-requires-2
word-requires-2 c = ends_as (verb-later c.args.i c.if-i-eq0.false) c.requires

pub returns : goal.returns
returns c = wrote_as (sym (verb-later c.args.i c.if-i-eq0.false)) c.word-2.ensures
