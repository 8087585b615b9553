-- A list after one store: what a loop has stored below a place goes on by one.
use mathlib.Core.List.{List}
use Prim.Native.Nat.{ℕ, ◌+◌, ◌<◌}
use native.Mathlib.Decide.{ℕ_discrete}
use native.Mathlib.Omega.{arith}
use lib.ListN.{length, get_or, set}
use lib.Seq.{get_or-set_same, get_or-set_other}

-- what holds of each entry below v
pub each_more : {A : Type 0} (z : A) (P : ℕ → A → Type 0) (t : List A) (v : ℕ) (x : A) → v < length t
    → ((k : ℕ) → k < v → P k (get_or t k z)) → P v x → (k : ℕ) → k < v + 1 → P k (get_or (set t v x) k z)
each_more z P t v x fits below here k h = elim (ℕ_discrete k v) [
  | yes e ↦ rw (e, get_or-set_same t v x z fits) here
  | no e ↦ rw (get_or-set_other t v k x z e) (below k (omega arith))
]
