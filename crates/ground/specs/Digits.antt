-- Numbers read by their digits. "A valuation is a number v below 2^n whose bit i is setting i": a bit is a digit in base 2.
-- "The knowledge number is the sum of digit × 7^i": a knowledge digit is a digit in base 7.
use Rattle.std.specs.Prelude.{ℕ, zero, suc, ◌+◌, ◌*◌, ◌/◌, ◌%◌, ◌^◌, Bool, eqb}

-- the digit of k at place i in base b
unfoldable pub digit : ℕ → ℕ → ℕ → ℕ
digit b k i = k / b ^ i % b

-- k with d for its digit at place i
unfoldable pub put : ℕ → ℕ → ℕ → ℕ → ℕ
put b k zero d = k / b * b + d
put b k (suc i) d = put b (k / b) i d * b + k % b

-- bit i of v
unfoldable pub bit : ℕ → ℕ → Bool
bit v i = eqb (digit 2 v i) 1
