-- How large a refusal's place is: for those who pack it and the number into one number. A place is a block of the book, the index of a byte,
-- or the plan's length.
use mathlib.Core.Path.{ap, ◌∙◌}
use mathlib.Core.Logic.{inl, inr}
use mathlib.Core.List.{List, [], ◌∷◌}
use Prim.Native.Nat.{ℕ, ◌≤◌}
use native.Mathlib.Omega.{arith}
use lib.ListN.{length, length-append}
use Rattle.refusal.specs.declared.Refusal.{Refusal}
use Rattle.refusal.specs.Refusals.{place}
use Rattle.knowledge.specs.Goal.{Goal}
use Rattle.plan.proofs.Faults.{fault_out}
use Rattle.question.specs.Question.{system_of, start_of}
use Rattle.question.specs.declared.Question.{Question}
use Rattle.question.proofs.Places.{question_place-small}
use Rattle.plancheck.specs.Checks.{Checks}
use Rattle.std.proofs.Common.{Err}
use Rattle.plancheck.proofs.RefusalLaws.{fault-place}
use Rattle.plancheck.proofs.OneAnswer.{refused_by}

pub place-small : (book : List ℕ) (q : Question) (goal : Goal) (plan : List ℕ) (r : Refusal) → Checks book q goal plan (Err r) → place r ≤ 32640
place-small book q goal plan r answer = elim (refused_by book q goal plan r answer) [
  | inl f ↦ omega (arith, question_place-small book q goal r f)
  | inr (inl (e, l)) ↦ omega (arith, ap place e)
  | inr (inr (f, i, e, j)) ↦ (let w = fault_out (system_of j.n book q goal) plan (start_of q ∷ []) 0 f i j.judged in
      omega (arith, ap place e ∙ fault-place f i, w.1, w.2.index, simp length-append at (ap length w.2.split), j.short))
]
