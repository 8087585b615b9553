-- "A present valuation fits if it agrees with every known present value, a start valuation if it agrees with every known start
-- value." d i is the digit of setting i: of a knowledge number k it is digit 7 k i. A side tells for each setting whether a value is unknown, false or true (knowledge_acts/specs/Seven).
use Rattle.std.specs.Prelude.{Bool, true, false, not, ◌||◌, List, ℕ, ◌^◌, eqb}
use Rattle.ground.specs.Digits.{bit}
use Rattle.ground.specs.Search.{all}
use Rattle.ground.specs.Table.{truth}
use Rattle.knowledge_acts.specs.Seven.{unknown, told, start_told, now_told}

-- a value agrees with a side: nothing is known of it, or this is
unfoldable pub agrees : ℕ → Bool → Bool
agrees side value = eqb side unknown || eqb side (told value)

-- the valuation v agrees with every value that the side tells of the n settings
unfoldable pub fits : ℕ → (ℕ → ℕ) → ℕ → Bool
fits n side v = all n (λ i. agrees (side i) (bit v i))

abbrev pub implies : Bool → Bool → Bool
implies a b = not a || b

-- x is the value b
abbrev pub is : Bool → Bool → Bool
is true x = x
is false x = not x

-- the table has the value b at every valuation that fits the side
unfoldable pub always : Bool → ℕ → (ℕ → ℕ) → List ℕ → Bool
always b n side table = all (2 ^ n) (λ v. implies (fits n side v) (is b (truth table v)))

-- what the digits tell of the values now, and of those at the start
abbrev pub now_side : (ℕ → ℕ) → ℕ → ℕ
now_side d i = now_told (d i)

abbrev pub start_side : (ℕ → ℕ) → ℕ → ℕ
start_side d i = start_told (d i)

-- "A present valuation fits if it agrees with every known present value"
unfoldable pub fits_now : ℕ → (ℕ → ℕ) → ℕ → Bool
fits_now n d v = fits n (now_side d) v

-- "a start valuation if it agrees with every known start value"
unfoldable pub fits_start : ℕ → (ℕ → ℕ) → ℕ → Bool
fits_start n d v = fits n (start_side d) v
