-- `pj_plan_check`: what the plan check answers, as one number. It writes nothing.
use Rattle.std.specs.Prelude.{◌≡◌, List, ℕ, Result}
use Rattle.question.specs.declared.Question.{Question}
use Rattle.knowledge.specs.Goal.{Goal}
use Rattle.plancheck.specs.Checks.{Checks}
use Rattle.refusal.specs.declared.Refusal.{Refusal}
use Rattle.exports.specs.Returned.{check_returned}

pub record PlanChecked (book : List ℕ) (q : Question) (goal : Goal) (plan : List ℕ) (result : ℕ) : Type 0 where
  pub answer : Result (Unit {0}) Refusal
  pub checks : Checks book q goal plan answer
  pub result_is : result ≡ check_returned answer
