-- The meaning of a sheet: what it states, or its first refusal. "A sheet is rules followed by a question; the meaning of a sheet is put together from the
-- meaning of the two." "First 24; then line by line 22, 23, the formula's number; 25 directly after line 1."
use Rattle.std.specs.Prelude.{false, cond, List, ℕ, ltb, length}
use Rattle.refusal.specs.declared.Refusal.{Refusal}
use Rattle.refusal.specs.declared.Refusal.TheVariants.{SheetLength}
use Rattle.sheet_words.specs.Words.{split, newline}
use Rattle.sheet_rules.specs.Rules.{Rules}
use Rattle.sheet_rules.specs.Reading.{Reading, up_to, rules_read}
use Rattle.sheet_rules.specs.Reading.{refused as rules-refused}
use Rattle.sheet_question.specs.Asked.{nothing_asked}
use Rattle.sheet_question.specs.Question.{QuestionMeaning, asked, asked_from}
use Rattle.sheet_question.specs.Question.{refused as question_refused}
use Rattle.sheet_question.specs.declared.desk.Due.TheVariants.{Team}
use Rattle.sheet_reading.specs.Sheet.{Sheet, sheet_of}

-- a refusal and its line, which is what is printed as its place ("for a formula, the line"); or all that the sheet states
pub data Meaning : Type 0 where
  refused : Refusal → (line : ℕ) → Meaning
  stated : Sheet → Meaning

-- these rules, with a question of this meaning
abbrev pub with_question : Rules → QuestionMeaning → Meaning
with_question rules (question_refused r line) = refused r line
with_question rules (asked a) = stated (sheet_of rules a)

-- the rules, and the question from the line on that is none of theirs; no line of a sheet is passed over
abbrev pub after_rules : Reading → Meaning
after_rules (rules-refused r line) = refused r line
after_rules (up_to rules line pieces) =
    with_question rules (asked_from false rules.size.settings rules.size.posts line Team nothing_asked pieces)

-- "24 sheet over 32,768 bytes" before all else; "25 n above 5"
unfoldable pub sheet_meaning : List ℕ → Meaning
sheet_meaning s = cond (ltb 32768 (length s)) (refused SheetLength 0) (after_rules (rules_read false 5 (split newline s)))
