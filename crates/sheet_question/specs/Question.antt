-- The meaning of a question text over n settings and m posts: what it asks, or its first refusal. "First 24; then line by line 22, 23, the formula's
-- number." The text may have lines that are passed over (`passes`), or may not; "line numbers count them".
use Rattle.std.specs.Prelude.{Bool, cond, List, [], ◌∷◌, ℕ, suc, ltb, length}
use Rattle.refusal.specs.declared.Refusal.{Refusal}
use Rattle.refusal.specs.declared.Refusal.TheVariants.{Malformed, SheetLength}
use Rattle.sheet_words.specs.Words.{split, newline}
use Rattle.sheet_words.specs.Steps.{fault, next}
use Rattle.sheet_question.specs.Asked.{Asked, nothing_asked}
use Rattle.sheet_question.specs.LineSteps.{line_step}
use Rattle.sheet_question.specs.declared.desk.Due.{Due}
use Rattle.sheet_question.specs.declared.desk.Due.TheVariants.{Team, Known, Held, Make, Asks}

-- a refusal and its line, which is what is printed as its place ("for a formula, the line"); or all that is asked
pub data QuestionMeaning : Type 0 where
  refused : Refusal → (line : ℕ) → QuestionMeaning
  asked : Asked → QuestionMeaning

-- what follows the last byte 10, at line number L: nothing may, and the make formula must have come. "A last line without byte 10 is 22 at that line, a
-- `#` line too"; "A text that ends early gets 22 one past its last line, passed-over lines counted."
abbrev pub ending : Due → Asked → List ℕ → ℕ → QuestionMeaning
ending Team a rest L = refused (Malformed L) L
ending Known a rest L = refused (Malformed L) L
ending Held a rest L = refused (Malformed L) L
ending Make a rest L = refused (Malformed L) L
ending Asks a [] L = asked a
ending Asks a (c ∷ rest) L = refused (Malformed L) L

-- the lines from number L on; `split` gives at least one piece, so the first case is never met
unfoldable pub asked_from : Bool → ℕ → ℕ → ℕ → Due → Asked → List (List ℕ) → QuestionMeaning
asked_from passes n m L due a [] = refused (Malformed L) L
asked_from passes n m L due a (rest ∷ []) = ending due a rest L
asked_from passes n m L due a (line ∷ another ∷ more) =
    elim (line_step passes n m L due a line) [ fault r ↦ refused r L | next (d, b) ↦ asked_from passes n m (suc L) d b (another ∷ more) ]

-- the whole text, where so many lines come before it: "at most 65,536 bytes (else 24)", before all else
unfoldable pub question_meaning : ℕ → Bool → ℕ → ℕ → List ℕ → QuestionMeaning
question_meaning before passes n m text =
    cond (ltb 65536 (length text)) (refused SheetLength 0) (asked_from passes n m (suc before) Team nothing_asked (split newline text))
