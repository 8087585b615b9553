-- Which answer a question and a plan get, from what the code found: the rows of the question, then 16, then the judgement on the bytes.
use mathlib.Core.Path.{◌≡◌, refl, sym, ap, ◌∙◌, subst}
use mathlib.Core.Logic.{inl, inr}
use mathlib.Core.List.{List, [], ◌∷◌}
use Prim.Native.Nat.{ℕ, ◌≤◌, ◌<◌}
use lib.ListN.{length}
use Rattle.refusal.specs.declared.Refusal.{Refusal}
use Rattle.refusal.specs.declared.Refusal.TheVariants.{PlanLength}
use Rattle.refusal.specs.Order.{when, First}
use Rattle.refusal.proofs.OrderLaws.{first-left, first-right, first-when}
use Rattle.knowledge.specs.Goal.{Goal}
use Rattle.plan.specs.Check.{Verdict, accepted, faulty, check}
use Rattle.question.specs.Question.{system_of, start_of}
use Rattle.question.specs.Rows.{question_rows}
use Rattle.question.specs.Asks.{ValidQuestion}
use Rattle.question.specs.declared.Question.{Question}
use Rattle.question.proofs.RowLaws.{question_clear}
use Rattle.plancheck.specs.Checks.{check_rows, JudgedAs, RefusesPlan, Checks}
use Rattle.plancheck.specs.Inner.{answer_of}
use Rattle.std.proofs.Common.{Result}

module _ (book : List ℕ) (q : Question) (goal : Goal) (plan : List ℕ) where
  -- the question's refusals come first
  pub question_row : {r : Refusal} → First (question_rows book q goal) r → RefusesPlan book q goal plan r
  unfolding check_rows
  question_row f = inl (first-left (when (32640 < length plan) PlanLength ∷ []) f)

  -- then 16
  pub long-row : {n m : ℕ} → ValidQuestion book q goal n m → 32640 < length plan → RefusesPlan book q goal plan PlanLength
  unfolding check_rows
  long-row v l = inl (first-right (question_clear v) (first-when l))

  -- then the judgement on the bytes
  pub judged-checks : (v : Verdict) → JudgedAs book q goal plan v → Checks book q goal plan (answer_of v)
  judged-checks accepted j = j
  judged-checks (faulty f i) j = inr (f, i, refl, j)

  pub verdict-checks : {n m s : ℕ} {r : Result (Unit {0}) Refusal} → ValidQuestion book q goal n m → length plan ≤ 32640 → s ≡ start_of q
      → r ≡ answer_of (check (system_of n book q goal) s plan) → Checks book q goal plan r
  verdict-checks {n} {m} v l e f =
      subst (Checks book q goal plan) (sym (f ∙ ap (λ (s : ℕ). answer_of (check (system_of n book q goal) s plan)) e))
      (judged-checks (check (system_of n book q goal) (start_of q) plan) (record { n = n; m = m; valid = v; short = l; judged = refl }))
