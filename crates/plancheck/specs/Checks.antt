-- "Plan check: the same through 12, then 16, then the first fault in reading order, 17 before 18; acceptance is a bare yes." And "32 .., after 18
-- at the same byte". What `check` answers, for every book, question, goal and plan; it writes nothing.
use Rattle.std.specs.Prelude.{◌≡◌, List, [], ◌∷◌, ◌++◌, ◌⊎◌, ℕ, ◌≤◌, ◌<◌, length, Result, Ok, Err}
use Rattle.refusal.specs.declared.Refusal.{Refusal}
use Rattle.refusal.specs.declared.Refusal.TheVariants.{PlanLength}
use Rattle.refusal.specs.Order.{Row, when, First}
use Rattle.knowledge.specs.Goal.{Goal}
use Rattle.plan.specs.Check.{Fault, Verdict, accepted, faulty, check}
use Rattle.question.specs.Question.{system_of, start_of}
use Rattle.question.specs.Rows.{question_rows}
use Rattle.question.specs.Asks.{ValidQuestion}
use Rattle.question.specs.declared.Question.{Question}
use Rattle.plancheck.specs.Refusals.{refusal_of}

-- "Plan check: the same through 12, then 16": "plan to check over 32,640 bytes"
unfoldable pub check_rows : List ℕ → Question → Goal → List ℕ → List Row
check_rows book q goal plan = question_rows book q goal ++ (when (32640 < length plan) PlanLength ∷ [])

-- none of refusals 6 to 12, 31 and 16 is given, and the verdict on the plan's bytes is this one
pub record JudgedAs (book : List ℕ) (q : Question) (goal : Goal) (plan : List ℕ) (verdict : Verdict) : Type 0 where
  pub n : ℕ
  pub m : ℕ
  pub valid : ValidQuestion book q goal n m
  pub short : length plan ≤ 32640
  pub judged : check (system_of n book q goal) (start_of q) plan ≡ verdict

-- a refusal: of the rows before any byte is read, or of "the first fault in reading order"
abbrev pub RefusesPlan : List ℕ → Question → Goal → List ℕ → Refusal → Type 0
RefusesPlan book q goal plan r =
    First (check_rows book q goal plan) r ⊎ ((f : Fault) × (i : ℕ) × (r ≡ refusal_of f i) × JudgedAs book q goal plan (faulty f i))

-- "acceptance is a bare yes"
abbrev pub Checks : List ℕ → Question → Goal → List ℕ → Result (Unit {0}) Refusal → Type 0
Checks book q goal plan (Ok done) = JudgedAs book q goal plan accepted
Checks book q goal plan (Err r) = RefusesPlan book q goal plan r
