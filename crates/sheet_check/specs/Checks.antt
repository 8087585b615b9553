-- What is said of a plan's text, for any bytes as a book, as a question text and as the plan's text. "Order of `check`: the book's, the question's, the plan
-- text's, then the plan check's". The question is the one that `ask` puts to the book (sheet_ask/specs/Asks).
use Rattle.std.specs.Prelude.{◌≡◌, ◌⊎◌, true, List, ℕ, Result, Ok, Err}
use Rattle.refusal.specs.declared.Refusal.{Refusal}
use Rattle.refusal.specs.Order.{First}
use Rattle.book_sound.specs.Sound.{Sound}
use Rattle.book_sound.specs.Rows.{book_rows}
use Rattle.knowledge.specs.Goal.{Goal}
use Rattle.question.specs.declared.Question.{Question}
use Rattle.plancheck.specs.Checks.{Checks}
use Rattle.plancheck_text.specs.Meaning as Text
use Rattle.plancheck_text.specs.Meaning.{plan_text_meaning}
use Rattle.sheet_question.specs.Question.{QuestionMeaning, refused, asked, question_meaning}
use Rattle.sheet_check.specs.declared.CheckFault.{CheckFault}
use Rattle.sheet_check.specs.declared.CheckFault.TheVariants.{Book as BookRefused, Question as QuestionRefused, Text as TextRefused, Plan as PlanRefused}
use Rattle.sheet_ask.specs.Asks.{QuestionAsks}

-- what the plan check answers is said as it is: "it prints `yes` or `refused NUMBER PLACE` as the library gives it"
abbrev pub told_of : Result (Unit {0}) Refusal → Result (Unit {0}) CheckFault
told_of (Ok done) = Ok tt
told_of (Err why) = Err (PlanRefused why)

-- by what the plan's text means: 24, or 22 with the plan's line; or what the plan check answers to its bytes
abbrev pub ChecksText : List ℕ → Question → Goal → Text.Meaning → Result (Unit {0}) CheckFault → Type 0
ChecksText book q goal (Text.refused why) r = r ≡ Err (TextRefused why)
ChecksText book q goal (Text.plan bytes) r = (answer : Result (Unit {0}) Refusal) × Checks book q goal bytes answer × (r ≡ told_of answer)

-- by what the question text means: 24, or a line's refusal with the line; or, for the question that it asks, what the plan's text gets
abbrev pub ChecksQuestion : ℕ → List ℕ → QuestionMeaning → List ℕ → Result (Unit {0}) CheckFault → Type 0
ChecksQuestion n book (refused why line) plan r = r ≡ Err (QuestionRefused (record { why = why; line = line }))
ChecksQuestion n book (asked a) plan r = (q : Question) × (goal : Goal) × QuestionAsks n a q goal × ChecksText book q goal (plan_text_meaning plan) r

-- what `check` says: "the book's 6 to 9"; or, of a sound book, by its size, what the two texts get
abbrev pub ChecksTexts : List ℕ → List ℕ → List ℕ → Result (Unit {0}) CheckFault → Type 0
ChecksTexts book question plan r =
    ((why : Refusal) × First (book_rows book) why × (r ≡ Err (BookRefused why)))
    ⊎ ((n : ℕ) × (m : ℕ) × Sound book n m × ChecksQuestion n book (question_meaning 0 true n m question) plan r)
