-- `pj_find`, `pj_find_two` and `pj_find_plain`: what a finder answers, as one number; the lent rooms of the first two are left as it leaves them.
use Rattle.std.specs.Prelude.{◌≡◌, List, ℕ, Result}
use Rattle.refusal.specs.declared.Refusal.{Refusal}
use Rattle.knowledge.specs.Goal.{Goal}
use Rattle.finder.specs.Finds.{Finds}
use Rattle.finder.specs.FindsTwo.{Rooms, FindsTwo}
use Rattle.finder.specs.declared.answer.Answer.{Answer}
use Rattle.question.specs.declared.Question.{Question}
use Rattle.finder_plain.specs.Finds.{FindsPlain}
use Rattle.finder_plain.specs.declared.finding.PlainAnswer.{PlainAnswer}
use Rattle.exports.specs.Returned.{find_returned, plain_returned}

-- the team has bit q for the post with index q; known bit i for setting i, values bit i where it is known to be true, and held bit i where no set act may
-- touch it
abbrev pub asked : ℕ → ℕ → ℕ → ℕ → Question
asked team known values held = record { team = team; known = known; values = values; held = held }

-- the result and the rooms after the call, from the rooms before it
pub record PlanFound (book : List ℕ) (q : Question) (goal : Goal) (ranks plan : List ℕ) (result : ℕ) (ranks' plan' : List ℕ) : Type 0 where
  pub answer : Result Answer Refusal
  pub finds : Finds book q goal ranks plan answer ranks' plan'
  pub result_is : result ≡ find_returned answer

-- of two legs
pub record TwoFound (book : List ℕ) (q : Question) (goal : Goal) (team2 : ℕ) (goal2 : Goal) (old : Rooms) (result : ℕ) (new : Rooms) : Type 0 where
  pub answer : Result Answer Refusal
  pub finds : FindsTwo book q goal team2 goal2 old answer new
  pub result_is : result ≡ find_returned answer

-- the plain finder is lent no room
pub record PlainlyFound (book : List ℕ) (q : Question) (goal : Goal) (result : ℕ) : Type 0 where
  pub answer : Result PlainAnswer Refusal
  pub finds : FindsPlain book q goal answer
  pub result_is : result ≡ plain_returned answer
