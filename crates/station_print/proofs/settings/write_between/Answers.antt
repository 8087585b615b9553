-- `write_between` meets its contract, by whether it is the first setting.
use mathlib.Core.Path.{sym, ap}
use Prim.Native.Nat.{ℕ}
use Rattle.print_room.proofs.Writing.{wrote_none, wrote_as, ends_as}
use Rattle.station_print.specs.Settings.{between}
use Rattle.station_print.proofs.SettingsLaws.{between-later}
use Rattle.station_print.proofs.settings.write_between.Goals as goal

pub returns-then-i-eq0 : goal.returns-then-i-eq0
returns-then-i-eq0 c = wrote_as (ap (λ (i : ℕ). between i c.args.text.now) (sym c.if-i-eq0.true)) wrote_none

pub word-requires : goal.word-requires
word-requires c =
    let a = c.args in
    ends_as (between-later a.i a.text.now c.if-i-eq0.false) c.requires

pub returns : goal.returns
returns c =
    let a = c.args in
    wrote_as (sym (between-later a.i a.text.now c.if-i-eq0.false)) c.word.ensures
