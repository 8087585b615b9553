-- What is proved of the plan check, in one place. Its answer is one alone. It says yes exactly where the bytes are those of a plan that works, up
-- to 32,640 bytes. Each refusal is given exactly where paper 01 says, at the first fault in reading order. What is written is accepted, and
-- no accepted plan is lower than the rank.
use mathlib.Core.Path.{◌≡◌, refl, sym, ap, ap₂, ◌∙◌, subst}
use mathlib.Core.Logic.{inl, inr, ◌↔◌}
use mathlib.Core.List.{List, [], ◌∷◌, ◌++◌, append-nil}
use Prim.Native.Nat.{ℕ, ◌≤◌, ◌<◌}
use native.Mathlib.Nat.{zero-add}
use native.Mathlib.Omega.{arith}
use lib.Dec.{lit≤}
use lib.ListN.{length}
use Rattle.ground.proofs.Bools.{lt_or_ge}
use Rattle.refusal.specs.declared.Refusal.{Refusal}
use Rattle.refusal.specs.declared.Refusal.TheVariants.{PlanLength, TooSoon, LeftOver}
use Rattle.refusal.specs.Order.{First}
use Rattle.book_sound.proofs.Theorems.{sound-one}
use Rattle.knowledge.specs.Goal.{Goal}
use Rattle.plan.specs.Plans.{Lawful, Plan, Works, height}
use Rattle.plan.specs.Ranks.{IsRank, Written}
use Rattle.plan.specs.Bytes.{encode}
use Rattle.plan.specs.Check.{Fault, too_soon, left_over, Verdict, accepted, faulty, check}
use Rattle.plan.proofs.Ranks.{has-rank, rank_reach}
use Rattle.plan.proofs.Written.{written_works}
use Rattle.plan.proofs.Check.{check_exact, judge-plan}
use Rattle.plan.proofs.Faults.{Reads, fault_in, fault_out}
use Rattle.plan.proofs.Faults as Faults
use Rattle.plan.proofs.Accepted as Plans
use Rattle.question.specs.Question.{system_of, start_of}
use Rattle.question.specs.Rows.{question_rows}
use Rattle.question.specs.Asks.{ValidQuestion}
use Rattle.question.specs.declared.Question.{Question}
use Rattle.question.proofs.SystemLaws as System
use Rattle.plancheck.specs.Refusals.{refusal_of}
use Rattle.plancheck.specs.Checks.{JudgedAs, Checks}
use Rattle.plancheck.specs.Inner.{answer_of}
use Rattle.std.proofs.Common.{Result, Ok, Err}
use Rattle.plancheck.proofs.EndLaws.{ends, over, whole-plan}
use Rattle.plancheck.proofs.AnswerLaws.{question_row, long-row, judged-checks}
use Rattle.plancheck.proofs.OneAnswer.{checks-one, refused_by, answer-fault, answer-short}
use Rattle.plancheck.proofs.walk.check.Reads as check-reads

-- ---- one result alone: any two that the contract of `check` allows are the same; nothing that is lent is written to

pub check_unique : (κs : _) (a : _) (x y : _) (s : _) → check-reads.Post κs a x s → check-reads.Post κs a y s → x ≡ y
check_unique κs a x y s p q = checks-one _ _ _ _ x y p q

-- ---- 6 to 12 and 31: the question's own, whatever the plan

module _ (book : List ℕ) (q : Question) (goal : Goal) (plan : List ℕ) (r : Result (Unit {0}) Refusal) (answer : Checks book q goal plan r) where
  -- what the question's rows give is the answer
  pub question_refused : (w : Refusal) → First (question_rows book q goal) w → r ≡ Err w
  question_refused w f = checks-one book q goal plan r (Err w) answer (question_row book q goal plan f)

  -- and a refusal that is not one of a plan's own, 16 to 21 and 32, is given exactly where they give it
  pub question_exact : (w : Refusal) → (w ≡ PlanLength → ⊥) → ((f : Fault) (i : ℕ) → w ≡ refusal_of f i → ⊥)
      → (r ≡ Err w) ↔ First (question_rows book q goal) w
  question_exact w not-length no-fault = (
    λ e. elim (refused_by book q goal plan w (subst (Checks book q goal plan) e answer)) [
      | inl f ↦ f
      | inr (inl (l, h)) ↦ absurd (not-length l)
      | inr (inr (f, i, same, j)) ↦ absurd (no-fault f i same)
    ],
    λ f. question_refused w f,
  )

-- ---- a valid question

module _ {book : List ℕ} {q : Question} {goal : Goal} {n m : ℕ} (valid : ValidQuestion book q goal n m) (plan : List ℕ) where
  few : n ≤ 7
  few = valid.sound.settings.most

  law : Lawful n (system_of n book q goal)
  law = System.lawful valid

  -- the judgement, over this n
  judged-at : {v : Verdict} → JudgedAs book q goal plan v → check (system_of n book q goal) (start_of q) plan ≡ v
  judged-at j = ap (λ (n : ℕ). check (system_of n book q goal) (start_of q) plan) (sound-one valid.sound j.valid.sound).0 ∙ j.judged

  yes_in : (p : Plan) → length plan ≤ 32640 → Works (system_of n book q goal) (start_of q) p → plan ≡ encode p → Checks book q goal plan (Ok tt)
  yes_in p l w e = record { n = n; m = m; valid = valid; short = l; judged = (check_exact law few (start_of q) plan).1 (p, w, e) }

  module _ (r : Result (Unit {0}) Refusal) (answer : Checks book q goal plan r) where
    -- demand 2: yes exactly where the bytes are those of a plan that works, up to 32,640 bytes
    pub yes_exact : (r ≡ Ok tt) ↔ ((length plan ≤ 32640) × ((p : Plan) × Works (system_of n book q goal) (start_of q) p × (plan ≡ encode p)))
    yes_exact = (
      λ e. let j : JudgedAs book q goal plan accepted = subst (Checks book q goal plan) e answer in
          (j.short, (check_exact law few (start_of q) plan).0 (judged-at j)),
      λ w. checks-one book q goal plan r (Ok tt) answer (yes_in w.1.0 w.0 w.1.1 w.1.2),
    )

    -- a plan of at most 32,640 bytes gets the answer of the judgement on its bytes
    answer-is : length plan ≤ 32640 → r ≡ answer_of (check (system_of n book q goal) (start_of q) plan)
    answer-is l =
        checks-one book q goal plan r _ answer
        (judged-checks book q goal plan (check (system_of n book q goal) (start_of q) plan)
        (record { n = n; m = m; valid = valid; short = l; judged = refl }))

    -- 16 "plan to check over 32,640 bytes"
    pub long_exact : (r ≡ Err PlanLength) ↔ (32640 < length plan)
    long_exact = (
      λ e. elim (lt_or_ge 32640 (length plan)) [
        | inl l ↦ l
        | inr l ↦ absurd (answer-short (check (system_of n book q goal) (start_of q) plan) (sym (answer-is l) ∙ e))
      ],
      λ l. checks-one book q goal plan r (Err PlanLength) answer (long-row book q goal plan valid l),
    )

    module _ (short : length plan ≤ 32640) where
      -- 17 to 21 and 32: "the first fault in reading order". All bytes before it read without one, and it is the fault of the byte that stands
      -- there, or of the end; `fault_means` of plancheck/proofs/ByteLaws says in paper 01's words what a byte's fault is
      pub fault_exact : (f : Fault) (i : ℕ) → (r ≡ Err (refusal_of f i)) ↔ Faults.First (system_of n book q goal) (start_of q ∷ []) plan f i
      fault_exact f i = (
        λ e. let w = fault_out (system_of n book q goal) plan (start_of q ∷ []) 0 f i
            (answer-fault (check (system_of n book q goal) (start_of q) plan) f i (sym (answer-is short) ∙ e)) in
            subst (Faults.First (system_of n book q goal) (start_of q ∷ []) plan f) (omega (arith, w.1)) w.2,
        λ w. answer-is short ∙ ap answer_of (fault_in (system_of n book q goal) (start_of q ∷ []) plan 0 f i w ∙ ap (faulty f) (zero-add i)),
      )

      -- 20 "plan ends too soon", at its length: all its bytes read without a fault, and a state is still pending
      pub soon_exact : (i : ℕ) → (r ≡ Err (TooSoon i))
          ↔ ((i ≡ length plan) × ((k : ℕ) × ((ks : List ℕ) × Reads (system_of n book q goal) (start_of q ∷ []) plan (k ∷ ks))))
      soon_exact i = (
        λ e. let w = (fault_exact too_soon i).0 e in
            let (nothing_left, (k, (ks, pending))) = ends (system_of n book q goal) w.pending w.left w.wrong in
            let whole : w.before ≡ plan = sym (w.split ∙ ap (λ (l : List ℕ). w.before ++ l) nothing_left ∙ append-nil w.before) in
            (w.index ∙ ap length whole, (k, (ks, rw (whole, pending) at w.reads))),
        λ (e, (k, (ks, reads))). (fault_exact too_soon i).1 (record {
          before = plan;
          left = [];
          pending = k ∷ ks;
          split = sym (append-nil plan);
          index = e;
          reads = reads;
          wrong = refl;
        }),
      )

      -- 21 "bytes after a whole plan", at the first of them
      pub over_exact : (i : ℕ) → (r ≡ Err (LeftOver i))
          ↔ ((p : Plan) × Works (system_of n book q goal) (start_of q) p × (i ≡ length (encode p)) × ((c : ℕ) × ((cs : List ℕ) × (plan ≡ encode p ++ c ∷ cs))))
      over_exact i = (
        λ e. let w = (fault_exact left_over i).0 e in
            let (none-pending, (c, (cs, left))) = over (system_of n book q goal) w.pending w.left w.wrong in
            let (p, works, bytes) = whole-plan law few (start_of q) w.before (rw none-pending at w.reads) in
            (p, works, w.index ∙ ap length bytes, (c, (cs, w.split ∙ ap₂ ◌++◌ bytes left))),
        λ (p, works, e, (c, (cs, f))). answer-is short
            ∙ ap answer_of (ap (check (system_of n book q goal) (start_of q)) f ∙ judge-plan law few p (start_of q) [] 0 (c ∷ cs) works
            ∙ ap (faulty left_over) (zero-add (length (encode p)) ∙ sym e)),
      )

  -- no accepted plan is lower than the rank
  pub accepted-height : Checks book q goal plan (Ok tt) → (rank : ℕ) → IsRank (system_of n book q goal) (start_of q) rank
      → (p : Plan) × Works (system_of n book q goal) (start_of q) p × (plan ≡ encode p) × (rank ≤ height p)
  accepted-height j rank is = Plans.accepted-plan law few (start_of q) plan rank is (judged-at j)

-- the empty plan is 20 at 0
pub empty_plan : {book : List ℕ} {q : Question} {goal : Goal} {n m : ℕ} → ValidQuestion book q goal n m
    → Checks book q goal [] (Err (TooSoon 0))
empty_plan {n = n} {m = m} valid = inr (too_soon, 0, refl, record { n = n; m = m; valid = valid; short = lit≤ tt; judged = refl })

-- the bytes of the written plan get a yes
pub written-accepted : {book : List ℕ} {q : Question} {goal : Goal} {n m : ℕ} → ValidQuestion book q goal n m
    → (p : Plan) → Written (system_of n book q goal) (start_of q) p → Checks book q goal (encode p) (Ok tt)
written-accepted {book} {q} {goal} {n} {m} valid p w =
    let few = valid.sound.settings.most in
    let law = System.lawful valid in
    let rank = has-rank law (start_of q) in
    let low = (rank_reach law (start_of q) rank.0 few rank.1).1 (p, written_works (system_of n book q goal) p (start_of q) w) in
    record {
      n = n;
      m = m;
      valid = valid;
      short = Plans.written-most law few (start_of q) p rank.0 w rank.1 low;
      judged = Plans.written-accepted law few (start_of q) p w;
    }
