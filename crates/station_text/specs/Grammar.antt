-- The grammar of a shift's text: how its lines are written. A text of at most 2,097,152 bytes is taken exactly where it is written so, and then for these bytes
-- (proofs/Theorems `taken`, `taken-only`). And the line of a record.
use Rattle.std.specs.Prelude.{◌≡◌, List, [], ◌∷◌, ◌++◌, ℕ, suc, ◌+◌, ◌*◌, ◌<◌, T, length, get_or, take}
use Rattle.print_answer.specs.Listed.{line}
use Rattle.sheet_words.specs.Words.{split, newline, passed_over}
use Rattle.station_text.specs.Records.{is_record, record_text}
use Rattle.station_text.specs.Lines.{line_record}
use Rattle.station_text.specs.Meaning.{lines_bytes}

-- the first is the text of the second, a shift's bytes
pub data ShiftTextOf : List ℕ → List ℕ → Type 0 where
  -- an empty text is that of a shift without records
  ended : ShiftTextOf [] []
  -- a line that is empty or begins with `#`, and has no byte 10 inside
  passing : (l : List ℕ) {s b : List ℕ} → T (passed_over l) → split newline l ≡ l ∷ [] → ShiftTextOf s b → ShiftTextOf (line l ++ s) b
  -- a line of a record's words
  saying : (c v : ℕ) {s b : List ℕ} → T (is_record c v) → ShiftTextOf s b → ShiftTextOf (line (record_text c v) ++ s) (c ∷ v ∷ b)

-- the line with number M, among the pieces of `split newline`, gives the record with index k: the lines before it give k records, of two bytes each, and it gives
-- the next of the bytes that all lines give. What follows the last byte 10 is no line.
pub record GivesAt (pieces : List (List ℕ)) (k M : ℕ) : Type 0 where
  pub index : ℕ
  pub number : M ≡ suc index
  pub there : suc index < length pieces
  pub before : length (lines_bytes (take (suc index) pieces)) ≡ 2 * k
  pub own : line_record (get_or pieces index []) ≡ get_or (lines_bytes pieces) (2 * k) 0 ∷ get_or (lines_bytes pieces) (2 * k + 1) 0 ∷ []
