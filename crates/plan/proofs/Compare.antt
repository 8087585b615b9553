-- Two systems compared: where one permits whatever the other does and has its goal settled wherever the other has, every plan that works in the
-- other works in it, with the same height. So what permits more reaches no less and no later.
use mathlib.Core.Logic.{inl, inr}
use mathlib.Core.Bool.{true, false}
use Prim.Native.Nat.{ℕ, ◌≤◌}
use native.Mathlib.Omega.{arith}
use lib.Dec.{T}
use Rattle.ground.specs.Search.{Least}
use Rattle.knowledge_acts.specs.Acts.{set_to, look_at}
use Rattle.knowledge_acts.specs.declared.act.Act.{Act}
use Rattle.plan.specs.Plans.{System, may, Lawful, Plan, stop, set_then, look_then, Permitted, Works}
use Rattle.plan.specs.Ranks.{Reach, Cannot, IsRank}
use Rattle.plan.proofs.Ranks.{rank-least, rank-small}

-- R permits every act that S permits, and the goal of S is settled only where that of R is. What an act does is the same in every system.
pub record PermitsMore (S R : System) : Type 0 where
  pub acts : (k : ℕ) (a : Act) → T (may S k a) → T (may R k a)
  pub goals : (k : ℕ) → T (S.goal k) → T (R.goal k)

module _ {S R : System} (more : PermitsMore S R) where
  -- a plan that works by the rules that permit less works by those that permit more
  pub works_more : (p : Plan) (k : ℕ) → Works S k p → Works R k p
  works_more stop k w = more.goals k w
  works_more (set_then i q b p) k w = (more.acts k _ w.0, works_more p (set_to k i b) w.1)
  works_more (look_then i q p r) k w =
      (more.acts k _ w.0, works_more p (look_at k i false) w.1, works_more r (look_at k i true) w.2)

  pub permitted-more : (p : Plan) (k : ℕ) → Permitted S k p → Permitted R k p
  permitted-more stop k w = tt
  permitted-more (set_then i q b p) k w = (more.acts k _ w.0, permitted-more p (set_to k i b) w.1)
  permitted-more (look_then i q p r) k w =
      (more.acts k _ w.0, permitted-more p (look_at k i false) w.1, permitted-more r (look_at k i true) w.2)

  -- it reaches no less: at the same height where S reaches; and where it cannot, neither can S
  pub reach_more : (k h : ℕ) → Reach S k h → Reach R k h
  reach_more k h w = (w.0, works_more w.0 k w.1, w.2)

  pub cannot_less : (k : ℕ) → Cannot R k → Cannot S k
  cannot_less k none p w = none p (works_more p k w)

  -- and no later: the least height is no greater
  pub height_no_greater : (k h g : ℕ) → Reach S k h → Least (Reach R k) g → g ≤ h
  height_no_greater k h g w least = omega (arith, w.2, rank-least R k (inl least) w.0 (works_more w.0 k w.1))

  -- and so is every rank, also the 255 of a state from which no plan works
  pub rank_no_greater : {n : ℕ} → Lawful n R → n ≤ 7 → (k r s : ℕ) → IsRank S k r → IsRank R k s → s ≤ r
  rank_no_greater law few k r s (inl a) b = omega (arith, a.here.2, rank-least R k b a.here.0 (works_more a.here.0 k a.here.1))
  rank_no_greater law few k r s (inr a) (inl b) = omega (arith, a.0, rank-small law k s few b)
  rank_no_greater law few k r s (inr a) (inr b) = omega (arith, a.0, b.0)
