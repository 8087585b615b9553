-- The place of 22, "sheet line malformed, absent or out of place", told by the grammar alone: the first line with which no well-formed sheet goes
-- on; and where there is none, what follows the last byte 10.
use Rattle.std.specs.Prelude.{◌≡◌, List, [], ◌∷◌, ◌++◌, ℕ, ◌<◌, length, take}
use Rattle.ground.specs.Search.{Least}
use Rattle.sheet_words.specs.Words.{split, newline}
use Rattle.sheet_reading.specs.Sheet.{Sheet}
use Rattle.sheet_reading.specs.Grammar.{ended, sheet_text, WellFormed}

-- some well-formed sheet begins with the text p
pub record BeginsSheet (p : List ℕ) : Type 0 where
  pub sheet : Sheet
  pub well_formed : WellFormed sheet
  pub rest : List ℕ
  pub written : sheet_text sheet ≡ p ++ rest

-- s is a well-formed sheet
pub record IsSheet (s : List ℕ) : Type 0 where
  pub sheet : Sheet
  pub well_formed : WellFormed sheet
  pub written : sheet_text sheet ≡ s

-- lines, each with its byte 10
unfoldable pub all_ended : List (List ℕ) → List ℕ
all_ended [] = []
all_ended (line ∷ more) = ended line ++ all_ended more

-- the first L lines of s
unfoldable pub first_lines : ℕ → List ℕ → List ℕ
first_lines L s = all_ended (take L (split newline s))

-- line L ends in byte 10, and no well-formed sheet begins with the lines up to it
abbrev pub Breaks : List ℕ → ℕ → Type 0
Breaks s L = (L < length (split newline s)) × (BeginsSheet (first_lines L s) → ⊥)

-- "22 [..] line": the least such; else "a last line without it is malformed", and "A sheet that ends early gets 22 one past its last line."
pub data MalformedAt (s : List ℕ) : ℕ → Type 0 where
  at_line : {L : ℕ} → Least (Breaks s) L → MalformedAt s L
  at_end : ((L : ℕ) → Breaks s L → ⊥) → (IsSheet s → ⊥) → MalformedAt s (length (split newline s))
