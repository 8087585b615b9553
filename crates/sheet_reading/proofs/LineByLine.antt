-- One line and then the others: a line with its byte 10 in front of a text is the first piece of the two, so that the text goes on where the line
-- is taken.
use mathlib.Core.Path.{◌≡◌, ap, ◌∙◌}
use mathlib.Core.List.{List, [], ◌∷◌, ◌++◌, append_assoc}
use Prim.Native.Nat.{ℕ}
use Rattle.sheet_words.specs.Words.{split, newline}
use Rattle.sheet_words.proofs.Split.{Clear, some_piece, split-marked}
use Rattle.sheet_reading.specs.Sheet.{Sheet}
use Rattle.sheet_reading.proofs.OnePass.{size_step, step, lines, first_line, after, lines_after, first-after}
use Rattle.sheet_question.specs.declared.desk.Due.{Due}
use Rattle.sheet_reading.specs.Grammar.{ended, InLine}

-- to be in a line is to be clear of byte 10
pub in_line : (s : List ℕ) → Clear newline s → InLine s
in_line [] h = tt
in_line (c ∷ s) h = (h.0, in_line s h.1)

pub line_clear : (s : List ℕ) → InLine s → Clear newline s
line_clear [] h = tt
line_clear (c ∷ s) h = (h.0, line_clear s h.1)

-- the pieces of a text after the line
pub lines-on : (L : ℕ) (due : Due) (v : Sheet) (line rest : List ℕ) → lines L due v (line ∷ split newline rest) ≡ after L (split newline rest) (step L due v line)
lines-on L due v line rest = some_piece newline (λ q. lines L due v (line ∷ q) ≡ after L q (step L due v line)) (lines_after L due v line) rest

pub first_on : (line rest : List ℕ) → first_line (line ∷ split newline rest) ≡ after 1 (split newline rest) (size_step line)
first_on line rest = some_piece newline (λ q. first_line (line ∷ q) ≡ after 1 q (size_step line)) (first-after line) rest

-- and of a text that begins with the line
pub split-ended : (line rest : List ℕ) → Clear newline line → split newline (ended line ++ rest) ≡ line ∷ split newline rest
unfolding ended
split-ended line rest c = ap (split newline) (append_assoc line (newline ∷ []) rest) ∙ split-marked newline line rest c

pub lines_split : (L : ℕ) (due : Due) (v : Sheet) (line rest : List ℕ) → Clear newline line → lines L due v (split newline (ended line ++ rest)) ≡ after L (split newline rest) (step L due v line)
lines_split L due v line rest c = ap (lines L due v) (split-ended line rest c) ∙ lines-on L due v line rest

pub first-split : (line rest : List ℕ) → Clear newline line → first_line (split newline (ended line ++ rest)) ≡ after 1 (split newline rest) (size_step line)
first-split line rest c = ap first_line (split-ended line rest c) ∙ first_on line rest
