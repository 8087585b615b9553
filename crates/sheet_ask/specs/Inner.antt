-- Inside: what the private functions mean. No public contract cites this.
use Rattle.std.specs.Prelude.{◌≡◌, List, ℕ, ◌*◌, ◌^◌, ◌≤◌, length, take, Result, Ok, Err}
use Rattle.refusal.specs.declared.Refusal.{Refusal}
use Rattle.refusal.specs.Refusals.{number, place}
use Rattle.knowledge.specs.Goal.{Goal, goal_of}
use Rattle.plan.specs.Plans.{Plan}
use Rattle.plan.specs.Bytes.{encode}
use Rattle.print_answer.specs.Listed.{Lettered}
use Rattle.print_answer.specs.Printed.{refused_text, cannot_text, reach_text, Prints}
use Rattle.question.specs.Question.{start_of}
use Rattle.question.specs.Legs.{second_system, first_system, ValidLegs}
use Rattle.question.specs.declared.Question.{Question}
use Rattle.finder.specs.Answers.{AnswersFrom}
use Rattle.finder.specs.declared.answer.Answer.{Answer}
use Rattle.finder.specs.declared.answer.Answer.TheVariants.{Reach, Cannot}
use Rattle.sheet_question.specs.declared.desk.AskedDesk.{AskedDesk}
use Rattle.sheet_ask.specs.Asks.{TwoFilled, PrintsFound}

-- the learn tables are there
abbrev pub Learnt : AskedDesk → Type 0
Learnt d = (length d.learn ≡ 64) × (d.asks ≤ 4)

-- the learn tables on the desk, without what its array has past them
unfoldable pub learn_in : AskedDesk → List ℕ
learn_in d = take (16 * d.asks) d.learn

-- what is asked on the desk
abbrev pub question_in : AskedDesk → Question
question_in d = d.question

abbrev pub goal_in : AskedDesk → Goal
goal_in d = goal_of d.make (learn_in d)

-- legs on their desks are valid over n settings, and the table has room for `count` ranks of each
pub record BothFit (n : ℕ) (book : List ℕ) (first second : AskedDesk) (count : ℕ) (ranks : List ℕ) : Type 0 where
  pub learnt : Learnt first
  pub learnt2 : Learnt second
  pub posts : ℕ
  pub valid : ValidLegs book (question_in first) (goal_in first) second.question.team (goal_in second) n posts
  pub counted : count ≡ 7 ^ n
  pub room : 2 * 7 ^ n ≤ length ranks

-- the ranks of both in the table, and the answer of the first leg with its plan room
pub record FoundBoth (n : ℕ) (book : List ℕ) (first second : AskedDesk) (ranks plan : List ℕ) (answer : Result Answer Refusal) (ranks' plan' : List ℕ) : Type 0 where
  pub filled : TwoFilled n (first_system n book (question_in first) (goal_in first) second.question.team (goal_in second))
      (second_system n book (question_in first) second.question.team (goal_in second)) ranks ranks'
  pub answers : AnswersFrom (first_system n book (question_in first) (goal_in first) second.question.team (goal_in second)) (start_of (question_in first)) plan answer plan'

-- what is printed for them
pub record ToldBoth (n : ℕ) (book : List ℕ) (first second : AskedDesk) (ranks out : List ℕ) (r : ℕ) (ranks' out' : List ℕ) : Type 0 where
  pub filled : TwoFilled n (first_system n book (question_in first) (goal_in first) second.question.team (goal_in second))
      (second_system n book (question_in first) second.question.team (goal_in second)) ranks ranks'
  pub prints : PrintsFound (first_system n book (question_in first) (goal_in first) second.question.team (goal_in second)) (start_of (question_in first)) out r out'

-- an answer can be printed: where there is a plan, its bytes are at the start of the room
abbrev pub Readable : Result Answer Refusal → List ℕ → Type 0
Readable (Ok (Reach h size)) plan = (size ≤ length plan) × ((p : Plan) × (take size plan ≡ encode p) × Lettered p) × (length (take size plan) ≤ 32640)
Readable (Ok Cannot) plan = Unit
Readable (Err why) plan = Unit

-- and it is printed
abbrev pub Tells : Result Answer Refusal → List ℕ → List ℕ → ℕ → List ℕ → Type 0
Tells (Ok (Reach h size)) plan out r out' = (p : Plan) → take size plan ≡ encode p → Lettered p → Prints out (reach_text h p) r out'
Tells (Ok Cannot) plan out r out' = Prints out cannot_text r out'
Tells (Err why) plan out r out' = Prints out (refused_text (number why) (place why)) r out'
