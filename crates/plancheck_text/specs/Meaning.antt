-- The meaning of a plan's text: the plan's bytes, or the first refusal. "the line `reach H`, then a line a plan byte, so byte i is in line i + 2; [..] any other
-- line is 22 with the plan's line; over 524,288 bytes is 24".
use Rattle.std.specs.Prelude.{◌≡◌, cond, List, [], ◌∷◌, ℕ, suc, ltb, length, Option, Some, None, Result, Ok, Err}
use Rattle.refusal.specs.declared.Refusal.{Refusal}
use Rattle.refusal.specs.declared.Refusal.TheVariants.{Malformed, SheetLength}
use Rattle.print_answer.specs.Printed.{Prints}
use Rattle.sheet_words.specs.Words.{split, newline}
use Rattle.plancheck_text.specs.Lines.{is_reach_line, is_plan_line, line_byte}

-- the text is refused, or it is the text of these plan bytes
pub data Meaning : Type 0 where
  refused : Refusal → Meaning
  plan : List ℕ → Meaning

-- what follows the last byte 10 is the last piece of `split newline`: nothing may. "A last line without byte 10 is 22 at that line."
abbrev pub stray_rest : ℕ → List ℕ → Option ℕ
stray_rest L [] = None
stray_rest L (c ∷ rest) = Some L

-- the number of the first stray line, where the first piece is line L; None where there is none. There is always a piece, so the first case is
-- never met.
unfoldable pub stray_line : ℕ → List (List ℕ) → Option ℕ
stray_line L [] = Some L
stray_line L (rest ∷ []) = stray_rest L rest
stray_line L (line ∷ another ∷ more) = cond (is_plan_line line) (stray_line (suc L) (another ∷ more)) (Some L)

-- a byte a line
unfoldable pub line_bytes : List (List ℕ) → List ℕ
line_bytes [] = []
line_bytes (rest ∷ []) = []
line_bytes (line ∷ another ∷ more) = line_byte line ∷ line_bytes (another ∷ more)

-- a stray line is 22
abbrev pub unless_stray : Option ℕ → List ℕ → Meaning
unless_stray None s = plan s
unless_stray (Some L) s = refused (Malformed L)

-- the first line and those after it; "A text that ends early gets 22 one past its last line": only an empty one ends too early
unfoldable pub lines_meaning : List (List ℕ) → Meaning
lines_meaning [] = refused (Malformed 1)
lines_meaning (rest ∷ []) = refused (Malformed 1)
lines_meaning (line ∷ another ∷ more) =
    cond (is_reach_line line) (unless_stray (stray_line 2 (another ∷ more)) (line_bytes (another ∷ more))) (refused (Malformed 1))

-- 24 before all else
unfoldable pub plan_text_meaning : List ℕ → Meaning
plan_text_meaning s = cond (ltb 524288 (length s)) (refused SheetLength) (lines_meaning (split newline s))

-- what is told, and what the lent room holds: the plan's bytes from its start on, as far as they fit, with the count of all of them; beside a refusal the
-- room is as it was
abbrev pub ReadsPlan : Meaning → Result ℕ Refusal → List ℕ → List ℕ → Type 0
ReadsPlan (refused r) (Err why) old new = (why ≡ r) × (new ≡ old)
ReadsPlan (refused r) (Ok count) old new = ⊥
ReadsPlan (plan s) (Err why) old new = ⊥
ReadsPlan (plan s) (Ok count) old new = Prints old s count new
