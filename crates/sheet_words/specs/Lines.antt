-- A text is taken line by line: its first line, and the text that follows it. What follows the last byte 10 is no line.
use Rattle.std.specs.Prelude.{◌≡◌, List, ◌∷◌, ℕ, ◌+◌, length, take, drop}
use Rattle.sheet_words.specs.Words.{split, newline}

-- `line` is the first of the lines of the text, and `rest` is all that follows its byte 10
pub record LineCut (text line rest : List ℕ) : Type 0 where
  pub pieces : split newline text ≡ line ∷ split newline rest
  pub line_is : line ≡ take (length line) text
  pub rest_is : rest ≡ drop (length line + 1) text
  pub lengths : length text ≡ length line + 1 + length rest
