-- "A formula's table is 16 bytes: bit v mod 8 of byte v / 8 tells its truth at v; bits for v at or above 2^n are 0."
-- Every rule and goal is worked on as such a table.
use Rattle.std.specs.Prelude.{◌≡◌, List, Bool, false, ℕ, ◌/◌, ◌%◌, ◌^◌, ◌≤◌, ◌<◌, length, get_or}
use Rattle.ground.specs.Digits.{bit}

-- what the table t says at the valuation v
unfoldable pub truth : List ℕ → ℕ → Bool
truth t v = bit (get_or t (v / 8) 0) (v % 8)

-- "bits for v at or above 2^n are 0"
unfoldable pub Within : ℕ → List ℕ → Type 0
Within n t = (v : ℕ) → 2 ^ n ≤ v → v < 128 → truth t v ≡ false

-- t is the table, for n settings, of what has the truth f
pub record TableOf (n : ℕ) (f : ℕ → Bool) (t : List ℕ) : Type 0 where
  pub sixteen : length t ≡ 16
  pub bytes : (j : ℕ) → get_or t j 0 < 256
  pub tells : (v : ℕ) → v < 2 ^ n → truth t v ≡ f v
  pub within : Within n t
