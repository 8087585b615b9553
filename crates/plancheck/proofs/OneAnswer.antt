-- The contract of `check` allows one answer alone: the rows give one refusal, none of them is given where the bytes are judged, and the judgement on
-- the bytes is a function.
use mathlib.Core.Path.{◌≡◌, refl, sym, ap, ◌∙◌}
use mathlib.Core.Logic.{◌⊎◌, inl, inr}
use mathlib.Core.List.{List}
use Prim.Native.Nat.{ℕ, ◌<◌}
use native.Mathlib.Omega.{arith}
use lib.ListN.{length}
use Rattle.refusal.specs.declared.Refusal.{Refusal}
use Rattle.refusal.specs.declared.Refusal.TheVariants.{PlanLength}
use Rattle.refusal.specs.Order.{First, Clear}
use Rattle.refusal.proofs.OrderLaws.{first_unique, first-clear, first-split, first_cases, first-none, when-gives, clear-append, clear-when, clear_none}
use Rattle.book_sound.proofs.Theorems.{sound-one}
use Rattle.knowledge.specs.Goal.{Goal}
use Rattle.plan.specs.Check.{Fault, Verdict, accepted, faulty, check}
use Rattle.question.specs.Question.{system_of, start_of}
use Rattle.question.specs.Rows.{question_rows}
use Rattle.question.specs.declared.Question.{Question}
use Rattle.question.proofs.RowLaws.{question_clear}
use Rattle.plancheck.specs.Refusals.{refusal_of}
use Rattle.plancheck.specs.Checks.{check_rows, JudgedAs, Checks}
use Rattle.plancheck.specs.Inner.{answer_of}
use Rattle.std.proofs.Common.{Result, Ok, Err}
use Rattle.plancheck.proofs.RefusalLaws.{fault-one, fault-short}

-- the judgement behind an answer
pub answer-fault : (v : Verdict) (f : Fault) (i : ℕ) → answer_of v ≡ Err (refusal_of f i) → v ≡ faulty f i
answer-fault accepted f i e = cc
answer-fault (faulty g j) f i e = fault-one g f j i cc

pub answer-short : (v : Verdict) → answer_of v ≡ Err PlanLength → ⊥
answer-short accepted e = cc
answer-short (faulty f i) e = fault-short f i cc

module _ (book : List ℕ) (q : Question) (goal : Goal) (plan : List ℕ) where
  -- ---- one answer

  -- none of the rows is given where the bytes are judged
  pub judged-clear : {v : Verdict} → JudgedAs book q goal plan v → Clear (check_rows book q goal plan)
  unfolding check_rows
  judged-clear j = clear-append (question_clear j.valid) (clear-when (λ l. omega (arith, j.short)) clear_none)

  pub judged-one : {v w : Verdict} → JudgedAs book q goal plan v → JudgedAs book q goal plan w → v ≡ w
  judged-one a b =
      sym a.judged ∙ ap (λ (n : ℕ). check (system_of n book q goal) (start_of q) plan) (sound-one a.valid.sound b.valid.sound).0 ∙ b.judged

  no_refusal : (r : Refusal) → JudgedAs book q goal plan accepted → Checks book q goal plan (Err r) → ⊥
  no_refusal r j (inl f) = first-clear f (judged-clear j)
  no_refusal r j (inr f) = let e = judged-one j f.3 in cc

  pub checks-one : (x y : Result (Unit {0}) Refusal) → Checks book q goal plan x → Checks book q goal plan y → x ≡ y
  checks-one (Ok u) (Ok v) a b = refl
  checks-one (Ok u) (Err r) a b = absurd (no_refusal r a b)
  checks-one (Err r) (Ok u) a b = absurd (no_refusal r b a)
  checks-one (Err r) (Err s) (inl a) (inl b) = ap Err (first_unique a b)
  checks-one (Err r) (Err s) (inl a) (inr b) = first-clear a (judged-clear b.3)
  checks-one (Err r) (Err s) (inr a) (inl b) = first-clear b (judged-clear a.3)
  checks-one (Err r) (Err s) (inr a) (inr b) =
      ap Err a.2 ∙ ap answer_of (judged-one a.3 b.3) ∙ sym (ap Err b.2)

  -- ---- a refusal by where it comes from: the question's rows, 16, or a fault

  pub refused_by : (w : Refusal) → Checks book q goal plan (Err w)
      → First (question_rows book q goal) w ⊎ ((w ≡ PlanLength) × (32640 < length plan))
      ⊎ ((f : Fault) × (i : ℕ) × (w ≡ refusal_of f i) × JudgedAs book q goal plan (faulty f i))
  unfolding check_rows
  refused_by w (inr f) = inr (inr f)
  refused_by w (inl f) = elim (first-split (question_rows book q goal) _ f) [
    | inl g ↦ inl g
    | inr (c, g) ↦ (elim (first_cases g) [ inl h ↦ inr (inl ((when-gives h).1, (when-gives h).0)) | inr (n, h) ↦ first-none h ])
  ]
