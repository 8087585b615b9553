-- A row whose places are the blocks 1 to n of n settings: setting i has block 1 + i.
use mathlib.Core.Path.{◌≡◌, subst}
use Prim.Native.Nat.{ℕ, ◌+◌, ◌-◌, ◌≤◌, ◌<◌}
use native.Mathlib.Omega.{arith}
use Rattle.ground.specs.Search.{Least, LowestAt}

back : (k : ℕ) → 1 ≤ k → 1 + (k - 1) ≡ k
back k h = omega arith

pub down : (i : ℕ) → 1 + i - 1 ≡ i
down i = omega arith

pub least-block : {n r : ℕ} (P : ℕ → Type 0) → LowestAt n (λ i. P (1 + i)) r → Least (λ k. (1 ≤ k) × (k ≤ n) × (P k → ⊥)) (1 + r)
least-block {n} {r} P low =
    record {
      here = (omega arith, omega (arith, low.within), low.here);
      none_below = λ k l g. g.2 (subst P (back k g.0) (low.before (k - 1) (omega (arith, g.0))));
    }

pub none-block : {n : ℕ} (P : ℕ → Type 0) → ((i : ℕ) → i < n → P (1 + i)) → (k : ℕ) → (1 ≤ k) × (k ≤ n) × (P k → ⊥) → ⊥
none-block P all k g = g.2 (subst P (back k g.0) (all (k - 1) (omega (arith, g.0, g.1))))
