-- "Sheet numbers are one digit, printed ones decimal": the digits of a number as bytes, the most significant first, without leading
-- zeros.
use Rattle.std.specs.Prelude.{◌≡◌, true, false, List, [], ◌∷◌, ◌++◌, ℕ, zero, suc, ◌+◌, ◌*◌, ◌-◌, ◌/◌, ◌%◌, ◌≤◌, ◌<◌, ltb, get_or}

-- the byte of a digit: `0` is 48
abbrev pub glyph : ℕ → ℕ
glyph d = 48 + d

-- the digits of a tenth of n, then its last; the count of steps only makes it a recursion
abbrev pub digits : ℕ → ℕ → List ℕ
digits zero n = glyph n ∷ []
digits (suc steps) n = elim (ltb n 10) [ true ↦ glyph n ∷ [] | false ↦ digits steps (n / 10) ++ glyph (n % 10) ∷ [] ]

-- "printed ones decimal"
unfoldable pub decimal : ℕ → List ℕ
decimal n = digits n n

-- every byte is one of `0` to `9`
abbrev pub AllDigits : List ℕ → Type 0
AllDigits [] = Unit
AllDigits (c ∷ s) = (48 ≤ c) × (c ≤ 57) × AllDigits s

-- the number that digits are read as, after those read so far
abbrev pub value_from : ℕ → List ℕ → ℕ
value_from sofar [] = sofar
value_from sofar (c ∷ s) = value_from (sofar * 10 + (c - 48)) s

-- what makes a text the decimal of n
pub record IsDecimal (n : ℕ) (s : List ℕ) : Type 0 where
  pub all_digits : AllDigits s
  pub value : value_from 0 s ≡ n
  -- no leading zero, but for 0 itself
  pub leading : 0 < n → 48 < get_or s 0 0
  pub nought : n ≡ 0 → s ≡ 48 ∷ []
