-- From what was read to what is said: one law for each return, by what the texts mean.
use mathlib.Core.Path.{◌≡◌, refl, sym, ap, ap₂, subst}
use mathlib.Core.Bool.{true}
use mathlib.Core.List.{List}
use Prim.Native.Nat.{ℕ, ◌≤◌}
use native.Mathlib.Omega.{arith}
use lib.ListN.{length, take}
use Rattle.std.proofs.Common.{Result, Ok, Err}
use Rattle.sheet_words.specs.declared.Fault.{Fault}
use Rattle.sheet_check.specs.declared.CheckFault.{CheckFault}
use Rattle.sheet_check.specs.declared.CheckFault.TheVariants.{Question as QuestionRefused, Text as TextRefused}
use Rattle.refusal.specs.declared.Refusal.{Refusal}
use Rattle.book_sound.specs.Sound.{Sound}
use Rattle.knowledge.specs.Goal.{Goal}
use Rattle.question.specs.declared.Question.{Question}
use Rattle.print_answer.proofs.Theorems.{fitted-length, prints-whole}
use Rattle.plancheck.specs.Checks.{Checks}
use Rattle.plancheck_text.specs.Meaning.{Meaning, refused, plan, plan_text_meaning, ReadsPlan}
use Rattle.plancheck_text.proofs.Theorems.{bytes_most}
use Rattle.sheet_question.specs.Question.{QuestionMeaning, question_meaning}
use Rattle.sheet_question.specs.Question as Question
use Rattle.sheet_question.specs.Reads.{within, ReadsQuestion}
use Rattle.sheet_question.specs.declared.desk.AskedDesk.{AskedDesk}
use Rattle.sheet_ask.specs.Inner.{question_in, goal_in}
use Rattle.sheet_ask.proofs.AskedQuestion.{desk_asks}
use Rattle.sheet_ask.proofs.AskLaws as Ask
use Rattle.sheet_check.specs.Checks.{told_of, ChecksText, ChecksQuestion}

-- ---- a plan's text, read into a room

module _ (s old new : List ℕ) where
  pub text-refused : (book : List ℕ) (q : Question) (goal : Goal) (why : Refusal) → ReadsPlan (plan_text_meaning s) (Err why) old new
      → ChecksText book q goal (plan_text_meaning s) (Err (TextRefused why))
  text-refused book q goal why reads = by_meaning (plan_text_meaning s) reads
    where
      by_meaning : (o : Meaning) → ReadsPlan o (Err why) old new → ChecksText book q goal o (Err (TextRefused why))
      by_meaning (refused r) h = ap (λ (x : Refusal). Err (TextRefused x)) h.0
      by_meaning (plan b) h = absurd h

  module _ (count : ℕ) (reads : ReadsPlan (plan_text_meaning s) (Ok count) old new) (size : length old ≡ 74897) where
    -- all of its bytes are in the room
    whole : (b : List ℕ) × (plan_text_meaning s ≡ plan b) × (count ≤ length new) × (take count new ≡ b)
    whole = by_meaning (plan_text_meaning s) refl reads
      where
        by_meaning : (o : Meaning) → plan_text_meaning s ≡ o → ReadsPlan o (Ok count) old new
            → (b : List ℕ) × (o ≡ plan b) × (count ≤ length new) × (take count new ≡ b)
        by_meaning (refused r) m h = absurd h
        by_meaning (plan b) m h =
            let most = bytes_most s b m in
            (b, refl, omega (arith, h.count, ap length h.room, fitted-length old b), prints-whole h (omega (arith, h.count)))

    pub count_fits : count ≤ length new
    count_fits = whole.2

    -- so the plan check's answer to what is in the room is its answer to the text
    pub text-judged : (book : List ℕ) (q : Question) (goal : Goal) (answer : Result (Unit {0}) Refusal) → Checks book q goal (take count new) answer
        → ChecksText book q goal (plan_text_meaning s) (told_of answer)
    text-judged book q goal answer c =
        let (b, m, fits, same) = whole in
        subst (λ (o : Meaning). ChecksText book q goal o (told_of answer)) (sym m) (answer, subst (λ (t : List ℕ). Checks book q goal t answer) same c, refl)

-- ---- a question text, read over a sound book

module _ {book : List ℕ} {n m : ℕ} (sound : Sound book n m) (s plan : List ℕ) where
  pub question_refused : (f : Fault) → ReadsQuestion (within 7 n) (question_meaning 0 true (within 7 n) (within 8 m) s) (Err f)
      → ChecksQuestion n book (question_meaning 0 true n m s) plan (Err (QuestionRefused f))
  question_refused f reads = by_meaning (question_meaning 0 true n m s) (Ask.own sound s (Err f) reads)
    where
      by_meaning : (o : QuestionMeaning) → ReadsQuestion n o (Err f) → ChecksQuestion n book o plan (Err (QuestionRefused f))
      by_meaning (Question.refused r at) h = ap₂ (λ (why : Refusal) (line : ℕ). Err (QuestionRefused (record { why = why; line = line }))) h.0 h.1
      by_meaning (Question.asked a) h = absurd h

  module _ (d : AskedDesk) (reads : ReadsQuestion (within 7 n) (question_meaning 0 true (within 7 n) (within 8 m) s) (Ok d)) where
    pub question_asked : (r : Result (Unit {0}) CheckFault) → ChecksText book (question_in d) (goal_in d) (plan_text_meaning plan) r
        → ChecksQuestion n book (question_meaning 0 true n m s) plan r
    question_asked r c =
        let (a, same, h) = Ask.whole sound s d reads in
        subst (λ (o : QuestionMeaning). ChecksQuestion n book o plan r) (sym same) (question_in d, goal_in d, desk_asks h, c)
