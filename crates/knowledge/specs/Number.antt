-- A knowledge state and its number. The digits of a state are a list; d i is the digit of setting i.
use Rattle.std.specs.Prelude.{List, [], ◌∷◌, ℕ, zero, suc, ◌+◌, ◌*◌, ◌^◌, get_or}
use Rattle.ground.specs.Digits.{digit, bit}
use Rattle.knowledge_acts.specs.Seven.{first_digit}

-- the digit of setting i in a state that holds these digits
abbrev pub digit_in : List ℕ → ℕ → ℕ
digit_in digits i = get_or digits i 0

-- the sum of digit × b^i, for i below n
unfoldable pub sum_of : ℕ → ℕ → (ℕ → ℕ) → ℕ
sum_of b zero d = 0
sum_of b (suc n) d = sum_of b n d + d n * b ^ n

-- "The knowledge number is the sum of digit × 7^i", over the first n settings
abbrev pub number_of : ℕ → (ℕ → ℕ) → ℕ
number_of n d = sum_of 7 n d

-- the digits of the seven settings in a knowledge number
unfoldable pub digits_of : ℕ → List ℕ
digits_of k = digit 7 k 0 ∷ digit 7 k 1 ∷ digit 7 k 2 ∷ digit 7 k 3 ∷ digit 7 k 4 ∷ digit 7 k 5 ∷ digit 7 k 6 ∷ []

-- "At the start each digit is 0, 3 or 6": the digit of setting i, where bit i of known says that it is known, and bit i of
-- values that it is true
unfoldable pub first_at : ℕ → ℕ → ℕ → ℕ
first_at known values i = first_digit (bit known i) (bit values i)

-- the seven digits at the start
unfoldable pub first_digits : ℕ → ℕ → List ℕ
first_digits known values =
    first_at known values 0
    ∷ first_at known values 1
    ∷ first_at known values 2
    ∷ first_at known values 3
    ∷ first_at known values 4
    ∷ first_at known values 5
    ∷ first_at known values 6
    ∷ []
