-- What the plain finder says of a question text, for any bytes as a book and as the text. The question is the one that `ask` puts to the book
-- (sheet_ask/specs/Asks), and the order is `ask`'s, without 13: "the book's 6 to 9, 24 (place 0), the lines".
use Rattle.std.specs.Prelude.{◌≡◌, ◌⊎◌, true, List, ℕ, Result, Ok, Err}
use Rattle.refusal.specs.declared.Refusal.{Refusal}
use Rattle.refusal.specs.Order.{First}
use Rattle.refusal.specs.Refusals.{number, place}
use Rattle.book_sound.specs.Sound.{Sound}
use Rattle.book_sound.specs.Rows.{book_rows}
use Rattle.knowledge.specs.Goal.{Goal}
use Rattle.plan.specs.Plans.{System, Plan}
use Rattle.print_answer.specs.Printed.{reach_text, refused_text, cannot_text, Prints}
use Rattle.question.specs.Question.{system_of, start_of}
use Rattle.question.specs.declared.Question.{Question}
use Rattle.finder_plain.specs.Finds.{AnswersPlainly}
use Rattle.finder_plain.specs.declared.finding.PlainAnswer.{PlainAnswer}
use Rattle.finder_plain.specs.declared.finding.PlainAnswer.TheVariants.{Reach, Cannot}
use Rattle.sheet_plain.specs.declared.AskFault.{AskFault}
use Rattle.sheet_plain.specs.declared.AskFault.TheVariants.{Book as BookRefused, Question as QuestionRefused}
use Rattle.sheet_question.specs.Question.{QuestionMeaning, refused, asked, question_meaning}
use Rattle.sheet_ask.specs.Asks.{QuestionAsks}

-- of a question that is asked: the least height of a working plan, or that none works
abbrev pub SaysPlainly : System → ℕ → Result PlainAnswer AskFault → Type 0
SaysPlainly S start (Ok answer) = AnswersPlainly S start answer
SaysPlainly S start (Err fault) = ⊥

-- by what the question text means
abbrev pub SaysOfText : ℕ → List ℕ → QuestionMeaning → Result PlainAnswer AskFault → Type 0
SaysOfText n book (refused why line) r = r ≡ Err (QuestionRefused (record { why = why; line = line }))
SaysOfText n book (asked a) r = (q : Question) × (goal : Goal) × QuestionAsks n a q goal × SaysPlainly (system_of n book q goal) (start_of q) r

-- "the book's 6 to 9"; or, of a sound book, by its size, what the text gets
abbrev pub AsksPlainly : List ℕ → List ℕ → Result PlainAnswer AskFault → Type 0
AsksPlainly book question r =
    ((why : Refusal) × First (book_rows book) why × (r ≡ Err (BookRefused why)))
    ⊎ ((n : ℕ) × (m : ℕ) × Sound book n m × SaysOfText n book (question_meaning 0 true n m question) r)

-- what `ask` prints, by the first finder, where the plain finder says this: `both` holds the first line of it, `reach H`, `cannot` or the refusal, against
-- what is said here
abbrev pub PrintsAs : Result PlainAnswer AskFault → List ℕ → ℕ → List ℕ → Type 0
PrintsAs (Ok (Reach h)) out r out' = (p : Plan) × Prints out (reach_text h p) r out'
PrintsAs (Ok Cannot) out r out' = Prints out cannot_text r out'
PrintsAs (Err (BookRefused why)) out r out' = Prints out (refused_text (number why) (place why)) r out'
PrintsAs (Err (QuestionRefused f)) out r out' = Prints out (refused_text (number f.why) f.line) r out'
