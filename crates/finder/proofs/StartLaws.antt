-- From the ranks and the plan written to the answer: one law for each return.
use mathlib.Core.Path.{◌≡◌, sym, ap, ◌∙◌}
use mathlib.Core.Logic.{inl, inr}
use mathlib.Core.List.{List, ◌++◌}
use Rattle.std.proofs.Common.{Ok}
use Prim.Native.Nat.{ℕ, ◌+◌, ◌^◌, ◌≤◌, ◌<◌}
use native.Mathlib.Omega.{arith}
use lib.ListN.{length, get_or, drop}
use lib.Seq.{sets}
use Rattle.ground.specs.Search.{Least}
use Rattle.ground.proofs.Lists.{sets_front}
use Rattle.plan.specs.Plans.{System, Plan}
use Rattle.plan.specs.Ranks.{Reach as ReachIn, Cannot as CannotFrom, Written}
use Rattle.plan.specs.Bytes.{encode}
use Rattle.plan.proofs.Ranks.{rank-small}
use Rattle.plan.proofs.Written.{written_unique}
use Rattle.finder.specs.Tables.{TablesTell, PlanFits}
use Rattle.finder.specs.Answers.{AnswersFrom}
use Rattle.finder.specs.declared.answer.Answer.TheVariants.{Reach}

module _ {n : ℕ} {sets' looks : List (List ℕ)} {ranks : List ℕ} where
  pub no_rank : {S : System} {k : ℕ} → TablesTell n sets' looks ranks S → k < 7 ^ n → get_or ranks k 0 ≡ 255 → CannotFrom S k
  no_rank {S} {k} t h e = elim (t.ranked k h) [
    | inl l ↦ absurd (omega (arith, rank-small t.law k (get_or ranks k 0) t.few l))
    | inr c ↦ c.1
  ]

  a_rank : {S : System} {k : ℕ} → TablesTell n sets' looks ranks S → k < 7 ^ n → get_or ranks k 0 < 255 → Least (ReachIn S k) (get_or ranks k 0)
  a_rank {S} {k} t h l = elim (t.ranked k h) [ inl x ↦ x | inr c ↦ absurd (omega (arith, c.0)) ]

  -- a plan that was found to have r bytes is the only one
  module _ {k r : ℕ} (f : (S : System) → TablesTell n sets' looks ranks S → (p : Plan) × Written S k p × (r ≡ length (encode p))) where
    same_size : (S : System) → TablesTell n sets' looks ranks S → (p : Plan) → Written S k p → r ≡ length (encode p)
    same_size S t p w = let x = f S t in x.2 ∙ ap (λ (s : Plan). length (encode s)) (written_unique t.law t.few x.0 p k x.1 w)

    pub room_start : (end : ℕ) → r ≤ end → PlanFits n sets' looks ranks k 0 end
    room_start end l S t p w = omega (arith, same_size S t p w)

    pub too_long : {S : System} (old : List ℕ) → TablesTell n sets' looks ranks S → length old < r → (p : Plan) × Written S k p × (length old < length (encode p))
    too_long {S} old t l = let x = f S t in (x.0, x.1, omega (arith, x.2))

    pub reached : {old new : List ℕ} {x : ℕ} → k < 7 ^ n → get_or ranks k 0 < 255 → r ≤ length old
        → ((S : System) → TablesTell n sets' looks ranks S → (p : Plan) × Written S k p × (new ≡ sets old 0 (encode p)) × (x ≡ 0 + length (encode p)))
        → (S : System) → TablesTell n sets' looks ranks S → AnswersFrom S k old (Ok (Reach (get_or ranks k 0) r)) new
    reached {old} h l fits g S t =
        let y = g S t in
        let e = same_size S t y.0 y.1 in
        (a_rank t h l, (y.0, y.1, e, fits, y.2 ∙ sets_front old (encode y.0) (omega (arith, e)) ∙ ap (λ (j : ℕ). encode y.0 ++ drop j old) (sym e)))
