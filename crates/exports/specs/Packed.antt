-- A refusal as one number, and what a host reads off a result. A success has 0 in its upper half.
use Rattle.std.specs.Prelude.{ℕ, ◌+◌, ◌*◌, ◌/◌, ◌%◌, ◌^◌}
use Rattle.refusal.specs.declared.Refusal.{Refusal}
use Rattle.refusal.specs.Refusals.{number, place, second}

-- the second number (one more than it is, 0 where there is none) from bit 40 on, the number from bit 32 on, and the place below; no place that is given
-- has more than 32 bits, but for the index of a shift's record (proofs/Apart)
unfoldable pub packed : Refusal → ℕ
packed r = second r * 2 ^ 40 + number r * 2 ^ 32 + place r % 2 ^ 32

-- a refusal of a text, with the line in the place of its own
unfoldable pub packed_at : Refusal → ℕ → ℕ
packed_at r line = second r * 2 ^ 40 + number r * 2 ^ 32 + line % 2 ^ 32

-- the lower half of a result, and of its upper half the lowest byte, bits 32 to 39, and the next, bits 40 to 47
abbrev pub lower : ℕ → ℕ
lower result = result % 2 ^ 32

abbrev pub upper : ℕ → ℕ
upper result = result / 2 ^ 32

abbrev pub number_in : ℕ → ℕ
number_in result = upper result % 256

abbrev pub second_in : ℕ → ℕ
second_in result = upper result / 256 % 256
