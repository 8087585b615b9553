-- A side as a number: its digit i in base 3 tells of setting i that the value is unknown (0), false (1) or true (2), as in the columns "start" and
-- "now" of paper 01's table of digits.
use Rattle.std.specs.Prelude.{ℕ}
use Rattle.ground.specs.Digits.{digit}
use Rattle.knowledge_acts.specs.Seven.{start_told, now_told}
use Rattle.knowledge.specs.Number.{sum_of}

-- what the knowledge number k tells of the present values of n settings
unfoldable pub now_side_number : ℕ → ℕ → ℕ
now_side_number n k = sum_of 3 n (λ i. now_told (digit 7 k i))

-- and of the start values
unfoldable pub start_side_number : ℕ → ℕ → ℕ
start_side_number n k = sum_of 3 n (λ i. start_told (digit 7 k i))
