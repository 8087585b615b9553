-- `changed` meets its contract: a setting is a digit of the valuation in base 2, and no sum is past a byte.
use native.Mathlib.Omega.{arith}
use Prim.Native.Nat.{◌*◌, ◌%◌, ◌^◌}
use mathlib.Core.Path.{◌≡◌}
use mathlib.Core.Bool.{true}
use Rattle.plan.proofs.Effects.{change_lt}
use Rattle.station.proofs.ActLaws.{power_is, bit-within, changed_off, changed_on}
use Rattle.station.proofs.act.changed.Goals as goal

pub overflow_mul-without : goal.overflow_mul-without
overflow_mul-without c =
    let power : 1 * 2 ^ c.args.setting % 256 ≡ 2 ^ c.args.setting =
    power_is c.args.setting c.requires in
    let a = c.args in
    rw (power) (record { fits = let small = bit-within a.present a.setting in omega (arith, small) })

pub overflow_sub-without : goal.overflow_sub-without
overflow_sub-without c =
    let power : 1 * 2 ^ c.args.setting % 256 ≡ 2 ^ c.args.setting =
    power_is c.args.setting c.requires in
    rw (power) (bit-within c.args.present c.args.setting)

pub overflow_add-result : goal.overflow_add-result
overflow_add-result c =
    let power : 1 * 2 ^ c.args.setting % 256 ≡ 2 ^ c.args.setting =
    power_is c.args.setting c.requires in
    let a = c.args in
    rw (power, changed_on a.present a.setting) (record { fits = change_lt a.present a.setting 8 true (omega arith) c.requires })

pub returns-then-value : goal.returns-then-value
returns-then-value c =
    let power : 1 * 2 ^ c.args.setting % 256 ≡ 2 ^ c.args.setting =
    power_is c.args.setting c.requires in
    let a = c.args in
    rw (power, c.if-value.true) (changed_on a.present a.setting)

pub returns-else-value : goal.returns-else-value
returns-else-value c =
    let power : 1 * 2 ^ c.args.setting % 256 ≡ 2 ^ c.args.setting =
    power_is c.args.setting c.requires in
    let a = c.args in
    rw (power, c.if-value.false) (changed_off a.present a.setting)
