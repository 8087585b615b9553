-- The powers of up to seven settings: how large they are.
use mathlib.Core.Path.{◌≡◌}
use Prim.Native.Nat.{ℕ, suc, ◌*◌, ◌^◌, ◌≤◌, ◌<◌}
use native.Mathlib.Nat.{pow-le-pow_right, pow-suc}
use native.Mathlib.Omega.{arith}
use lib.Dec.{lit<}

pub sides-most : (n : ℕ) → n ≤ 7 → 3 ^ n ≤ 2187
sides-most n h = pow-le-pow_right (lit< {m = 0} {n = 3} tt) h

pub states_most : (n : ℕ) → n ≤ 7 → 7 ^ n ≤ 823543
states_most n h = pow-le-pow_right (lit< {m = 0} {n = 7} tt) h

-- the power of a setting below the seventh
pub power_most : {n i power : ℕ} → n ≤ 7 → i < n → power ≡ 3 ^ i → power ≤ 729
power_most {n} {i} {power} most h e = rw e (pow_le i (omega arith))
  where
    pow_le : (i : ℕ) → i ≤ 6 → 3 ^ i ≤ 729
    pow_le i h = let w : 3 ^ i * 3 ≤ 2187 = rw (pow-suc 3 i) at (sides-most (suc i) (omega arith)) in omega arith
