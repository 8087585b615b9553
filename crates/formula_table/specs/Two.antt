-- A table while it is worked on, as two words of 64 bits. Bit v of the low word is its truth at v, and the high word goes on at 64.
use Rattle.std.specs.Prelude.{◌≡◌, List, Bool, cond, ℕ, ◌*◌, ◌-◌, ◌/◌, ◌%◌, ◌^◌, ◌<◌, ltb, length, get_or}
use Rattle.ground.specs.Digits.{bit}
use Rattle.formula_table.specs.declared.Truths.{Truths}

-- what the words say at v
unfoldable pub has : Truths → ℕ → Bool
has w v = cond (ltb v 64) (bit w.low v) (bit w.high (v - 64))

-- the words say what f says, at each of the 128 valuations of seven settings
unfoldable pub WordsOf : Truths → (ℕ → Bool) → Type 0
WordsOf w f = (v : ℕ) → v < 128 → has w v ≡ f v

-- byte j of the words
unfoldable pub words_byte : Truths → ℕ → ℕ
words_byte w j = cond (ltb j 8) w.low w.high / 2 ^ (8 * (j % 8)) % 256

-- t is the sixteen bytes of the words
pub record BytesOf (w : Truths) (t : List ℕ) : Type 0 where
  pub sixteen : length t ≡ 16
  pub each : (j : ℕ) → j < 16 → get_or t j 0 ≡ words_byte w j
