-- Tests over all numbers below n, as computed answers, the least number with a property, and the lowest below n without one.
use Rattle.std.specs.Prelude.{ℕ, zero, suc, ◌<◌, Bool, true, false, ◌&&◌, ◌||◌, Option, Some, None}

-- f at every number below n
unfoldable pub all : ℕ → (ℕ → Bool) → Bool
all zero f = true
all (suc n) f = f n && all n f

-- f at some number below n
unfoldable pub any : ℕ → (ℕ → Bool) → Bool
any zero f = false
any (suc n) f = f n || any n f

-- "least", "lowest": P holds at i and at nothing below
pub record Least (P : ℕ → Type 0) (i : ℕ) : Type 0 where
  pub here : P i
  pub none_below : (j : ℕ) → j < i → P j → ⊥

-- r is the lowest number below n at which P fails
pub record LowestAt (n : ℕ) (P : ℕ → Type 0) (r : ℕ) : Type 0 where
  pub within : r < n
  pub before : (k : ℕ) → k < r → P k
  pub here : P r → ⊥

-- what a search for that number gives: it, or none where P holds at every number below n
abbrev pub Lowest : ℕ → (ℕ → Type 0) → Option ℕ → Type 0
Lowest n P (Some r) = LowestAt n P r
Lowest n P None = (k : ℕ) → k < n → P k
