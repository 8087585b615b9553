-- What the plain `find` gives: "the same reach or cannot and the same height as the table finder on every valid question". "Its refusals are those
-- through 12", with 31 between 11 and 12. "It writes nothing".
use Rattle.std.specs.Prelude.{List, ℕ, Result, Ok, Err}
use Rattle.ground.specs.Search.{Least}
use Rattle.refusal.specs.declared.Refusal.{Refusal}
use Rattle.refusal.specs.Order.{First}
use Rattle.knowledge.specs.Goal.{Goal}
use Rattle.plan.specs.Plans.{System}
use Rattle.plan.specs.Ranks.{Reach as ReachIn, Cannot as CannotFrom}
use Rattle.question.specs.Question.{system_of, start_of}
use Rattle.question.specs.Rows.{question_rows}
use Rattle.question.specs.Asks.{ValidQuestion}
use Rattle.question.specs.declared.Question.{Question}
use Rattle.finder_plain.specs.declared.finding.PlainAnswer.{PlainAnswer}
use Rattle.finder_plain.specs.declared.finding.PlainAnswer.TheVariants.{Reach, Cannot}

-- "gives the first at which a working plan exists"; "none works"
abbrev pub AnswersPlainly : System → ℕ → PlainAnswer → Type 0
AnswersPlainly S start (Reach h) = Least (ReachIn S start) h
AnswersPlainly S start Cannot = CannotFrom S start

-- a valid question is answered; any other is refused by the first of refusals 6 to 12 and 31
abbrev pub FindsPlain : List ℕ → Question → Goal → Result PlainAnswer Refusal → Type 0
FindsPlain book q goal (Ok (Reach h)) = (n : ℕ) × (m : ℕ) × ValidQuestion book q goal n m × Least (ReachIn (system_of n book q goal) (start_of q)) h
FindsPlain book q goal (Ok Cannot) = (n : ℕ) × (m : ℕ) × ValidQuestion book q goal n m × CannotFrom (system_of n book q goal) (start_of q)
FindsPlain book q goal (Err r) = First (question_rows book q goal) r
