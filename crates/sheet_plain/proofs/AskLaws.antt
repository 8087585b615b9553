-- From what was read to what is said: one law for each return, by what the question text means.
use Rattle.std.proofs.Common.{List, ℕ, true, sym, ap₂, subst, refl, Result, Ok, Err, IsOk}
use Rattle.refusal.specs.declared.Refusal.{Refusal}
use Rattle.book_sound.specs.Sound.{Sound}
use Rattle.question.specs.Asks.{ValidQuestion}
use Rattle.question.specs.Question.{system_of, start_of}
use Rattle.finder_plain.specs.Finds.{AnswersPlainly, FindsPlain}
use Rattle.finder_plain.specs.declared.finding.PlainAnswer.{PlainAnswer}
use Rattle.finder_plain.specs.declared.finding.PlainAnswer.TheVariants.{Reach, Cannot}
use Rattle.finder_plain.proofs.Theorems.{own_reach, own_cannot, valid-answered}
use Rattle.sheet_words.specs.declared.Fault.{Fault}
use Rattle.sheet_question.specs.Question.{QuestionMeaning, question_meaning}
use Rattle.sheet_question.specs.Question as Question
use Rattle.sheet_question.specs.Reads.{within, ReadsQuestion}
use Rattle.sheet_question.specs.declared.desk.AskedDesk.{AskedDesk}
use Rattle.sheet_ask.specs.Inner.{question_in, goal_in}
use Rattle.sheet_ask.proofs.AskedQuestion.{desk_asks}
use Rattle.sheet_ask.proofs.AskLaws as Ask
use Rattle.sheet_plain.specs.Asks.{SaysOfText}
use Rattle.sheet_plain.specs.declared.AskFault.TheVariants.{Question as QuestionRefused}

module _ {book : List ℕ} {n m : ℕ} (sound : Sound book n m) (text : List ℕ) where
  pub question_refused : (f : Fault) → ReadsQuestion (within 7 n) (question_meaning 0 true (within 7 n) (within 8 m) text) (Err f)
      → SaysOfText n book (question_meaning 0 true n m text) (Err (QuestionRefused f))
  question_refused f reads = by_meaning (question_meaning 0 true n m text) (Ask.own sound text (Err f) reads)
    where
      by_meaning : (o : QuestionMeaning) → ReadsQuestion n o (Err f) → SaysOfText n book o (Err (QuestionRefused f))
      by_meaning (Question.refused r at) h = ap₂ (λ (why : Refusal) (line : ℕ). Err (QuestionRefused (record { why = why; line = line }))) h.0 h.1
      by_meaning (Question.asked a) h = absurd h

  module _ (d : AskedDesk) (reads : ReadsQuestion (within 7 n) (question_meaning 0 true (within 7 n) (within 8 m) text) (Ok d)) where
    -- the question is valid
    valid : ValidQuestion book (question_in d) (goal_in d) n m
    valid = Ask.stated-valid sound text d reads

    answers : (a : PlainAnswer) → FindsPlain book (question_in d) (goal_in d) (Ok a) → AnswersPlainly (system_of n book (question_in d) (goal_in d)) (start_of (question_in d)) a
    answers (Reach h) finds = own_reach book (question_in d) (goal_in d) valid finds
    answers Cannot finds = own_cannot book (question_in d) (goal_in d) valid finds

    -- what the finder answers to it is said of the text
    pub says : (a : PlainAnswer) → FindsPlain book (question_in d) (goal_in d) (Ok a) → SaysOfText n book (question_meaning 0 true n m text) (Ok a)
    says a finds =
        let (b, same, on_desk) = Ask.whole sound text d reads in
        subst (λ (o : QuestionMeaning). SaysOfText n book o (Ok a)) (sym same) (question_in d, goal_in d, desk_asks on_desk, answers a finds)

    -- and it refuses nothing
    pub never-refused : (found : Result PlainAnswer Refusal) → FindsPlain book (question_in d) (goal_in d) found → IsOk found
    never-refused (Ok a) finds = refl
    never-refused (Err why) finds = absurd (valid-answered book (question_in d) (goal_in d) valid why finds)
