-- What an answer at the start of a lawful system says of its plans, both ways: "reach" exactly when a plan works, with the least height and such a
-- plan. Whatever the goal is, so that one leg and two cite the same.
use mathlib.Core.Path.{◌≡◌, refl}
use mathlib.Core.Logic.{inl}
use mathlib.Core.List.{List, ◌++◌}
use Rattle.std.proofs.Common.{Result, Ok, Err}
use Prim.Native.Nat.{ℕ, ◌≤◌}
use native.Mathlib.Omega.{arith}
use lib.ListN.{length, drop}
use Rattle.plan.specs.Plans.{System, Lawful, Plan, Works, height}
use Rattle.plan.specs.Ranks.{Cannot as CannotFrom}
use Rattle.plan.specs.Bytes.{encode}
use Rattle.plan.proofs.Ranks.{rank-least, has-rank, rank_reach}
use Rattle.plan.proofs.Written.{written_works, written-height}
use Rattle.plan.proofs.Accepted.{written-most}
use Rattle.finder.specs.Answers.{AnswersFrom}
use Rattle.refusal.specs.declared.Refusal.{Refusal}
use Rattle.finder.specs.declared.answer.Answer.{Answer}
use Rattle.finder.specs.declared.answer.Answer.TheVariants.{Reach, Cannot}

module _ (S : System) (k : ℕ) (old new : List ℕ) where
  -- "reach": the plan in the room works, has the height named and the length named, and none that works is lower
  pub reach_plan : (h size : ℕ) → AnswersFrom S k old (Ok (Reach h size)) new
      → (p : Plan) × Works S k p × (height p ≡ h) × ((s : Plan) → Works S k s → h ≤ height s) × (size ≡ length (encode p)) × (new ≡ encode p ++ drop size old)
  reach_plan h size a =
      let p = a.1 in
      (p.0, written_works S p.0 k p.1, written-height S p.0 k h p.1 (inl a.0), (λ s w. rank-least S k (inl a.0) s w), p.2, p.4)

  -- where no plan works it is "cannot"
  pub none-answer : (a : Result Answer Refusal) → CannotFrom S k → AnswersFrom S k old a new → a ≡ Ok Cannot
  none-answer (Ok (Reach h size)) none a = absurd (none a.1.0 (written_works S a.1.0 k a.1.1))
  none-answer (Ok Cannot) none a = refl
  none-answer (Err w) none a = absurd (none a.1.0 (written_works S a.1.0 k a.1.1))

  -- and where one works it is "reach", in a room of 32,640 bytes
  pub works_answer : {n : ℕ} → Lawful n S → n ≤ 7 → 32640 ≤ length old → (a : Result Answer Refusal) (p : Plan) → Works S k p → AnswersFrom S k old a new
      → (h : ℕ) × (size : ℕ) × (a ≡ Ok (Reach h size))
  works_answer law few big (Ok (Reach h size)) p w a = (h, size, refl)
  works_answer law few big (Ok Cannot) p w a = absurd (a.0 p w)
  works_answer law few big (Err y) p w a =
      let s = a.1 in
      let rank = has-rank law k in
      absurd (omega (
        arith,
        s.2,
        written-most law few k s.0 rank.0 s.1 rank.1 ((rank_reach law k rank.0 few rank.1).1 (s.0, written_works S s.0 k s.1)),
      ))
