-- `names` meets its contract. The loop's invariant: the first i settings were written.
use mathlib.Core.Path.{sym, ap, ◌≡◌}
use Prim.Native.Nat.{ℕ}
use native.Mathlib.Omega.{arith}
use Rattle.ground.specs.Digits.{bit}
use Rattle.book_sound.specs.Sound.{in_order}
use Rattle.print_room.proofs.Writing.{wrote_none, wrote_as, ends_as}
use Rattle.station_print.specs.Settings.{setting_name, setting_names}
use Rattle.station_print.proofs.Writing.{order_more, order_ends}
use Rattle.station_print.proofs.settings.names.Goals as goal

pub loop-i-init : goal.loop-i-init
unfolding setting_names in_order
loop-i-init c = wrote_none

pub name-at-requires : goal.name-at-requires
unfolding setting_names
name-at-requires c =
    let l = c.loop-i in (
      omega arith,
      ends_as (ap (setting_name l.i) (sym c.bit_of.ensures))
          (order_ends (λ j. setting_name j (bit c.args.present j)) c.args.n l.i c.loop-i-test.true c.requires.1 l.invariant),
    )

pub loop-i-preserved : goal.loop-i-preserved
unfolding setting_names
loop-i-preserved c =
    let l = c.loop-i in
    order_more (λ j. setting_name j (bit c.args.present j)) l.invariant
    (wrote_as (ap (setting_name l.i) c.bit_of.ensures) c.name-at.ensures)

pub returns : goal.returns
returns c =
    let l = c.loop-i in
    let all-of-them : l.i ≡ c.args.n = omega arith in
    wrote_as (ap (λ (k : ℕ). setting_names k c.args.present) all-of-them) l.invariant
