-- `ground::valuations` meets its contract: 2 ^ n fits a byte.
use mathlib.Core.Path.{sym, ap}
use Prim.Native.Nat.{◌^◌, ◌≤◌}
use native.Mathlib.Nat.{one-mul, mod-eq_of_lt, min-eq_left, min-eq_right}
use native.Mathlib.Omega.{arith}
use lib.Pow.{pow_mono}
use Rattle.ground.proofs.valuations.Goals as goal

pub returns-then-n-ge-SETTINGS_MOST : goal.returns-then-n-ge-SETTINGS_MOST
returns-then-n-ge-SETTINGS_MOST c = ap (λ k. 2 ^ k) (sym (min-eq_right c.if-n-ge-SETTINGS_MOST.true))

pub returns : goal.returns
returns c =
    let few : c.args.n ≤ 7 = omega (arith, c.if-n-ge-SETTINGS_MOST) in
    rw (one-mul, min-eq_left few) (mod-eq_of_lt (omega (arith, pow_mono few)))
