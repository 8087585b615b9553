-- Two legs: the first leg as a system of its own has exactly the plans that work and leave the second team a working plan at each stop. So its least
-- height, its "cannot" and its ranks are those of two legs.
use mathlib.Core.Path.{◌≡◌}
use mathlib.Core.Logic.{◌↔◌, ◌⊎◌, inl, inr}
use mathlib.Core.Bool.{Bool, true, false, ◌&&◌}
use Prim.Native.Nat.{ℕ, suc, ◌-◌, ◌^◌, ◌≤◌, ◌<◌}
use native.Mathlib.Omega.{arith}
use lib.Dec.{T}
use Rattle.ground.specs.Search.{Least}
use Rattle.ground.proofs.Bools.{and_in, and_left, and_right}
use Rattle.knowledge_acts.specs.Acts.{set_to, look_at}
use Rattle.plan.specs.Plans.{System, Lawful, Plan, stop, set_then, look_then, Works, height}
use Rattle.plan.specs.Ranks.{Reach, IsRank}
use Rattle.plan.specs.Legs.{WorksThen, ReachThen, can_from, with_goal, first_leg}
use Rattle.plan.proofs.Layers.{sound, complete}
use Rattle.plan.proofs.Bound.{bound}
use Rattle.plan.proofs.Ranks.{rank_reach}

-- what is lawful does not turn on the goal
pub lawful_goal : {n : ℕ} {S : System} (goal : ℕ → Bool) → Lawful n S → Lawful n (with_goal S goal)
lawful_goal goal law = record { setting_of_case = law.setting_of_case; post_of_case = law.post_of_case; looks_at = law.looks_at }

pub first_lawful : {n : ℕ} {S : System} (R : System) → Lawful n S → Lawful n (first_leg n S R)
unfolding first_leg
first_lawful {n} {S} R law = lawful_goal (λ k. S.goal k && can_from n R k) law

module _ {n : ℕ} {R : System} (law : Lawful n R) where
  -- the computed test tells whether a plan works
  pub can_exactly : (k : ℕ) → T (can_from n R k) ↔ ((p : Plan) × Works R k p)
  unfolding can_from
  can_exactly k = (
    λ t. (let w = sound law (2 ^ suc n - 1) k t in (w.0, w.1)),
    λ w. bound law (suc (height w.0)) k (complete law w.0 (suc (height w.0)) k w.1 (omega arith)),
  )

  -- and a rank below 255 tells the same
  pub rank-can : (k r : ℕ) → n ≤ 7 → IsRank R k r → (r < 255) ↔ T (can_from n R k)
  rank-can k r few is =
      (λ l. (can_exactly k).1 ((rank_reach law k r few is).0 l), λ t. (rank_reach law k r few is).1 ((can_exactly k).0 t))

  module _ (S : System) where
    -- a plan of the first leg works exactly where it works for the first team and leaves the second a working plan at each stop
    pub then_works : (p : Plan) (k : ℕ) → Works (first_leg n S R) k p → WorksThen S R k p
    unfolding first_leg
    then_works stop k w = (and_left (S.goal k) (can_from n R k) w, (can_exactly k).0 (and_right (S.goal k) (can_from n R k) w))
    then_works (set_then i q b p) k w = (w.0, then_works p (set_to k i b) w.1)
    then_works (look_then i q p r) k w = (w.0, then_works p (look_at k i false) w.1, then_works r (look_at k i true) w.2)

    pub works_then : (p : Plan) (k : ℕ) → WorksThen S R k p → Works (first_leg n S R) k p
    unfolding first_leg
    works_then stop k w = and_in (S.goal k) (can_from n R k) w.0 ((can_exactly k).1 w.1)
    works_then (set_then i q b p) k w = (w.0, works_then p (set_to k i b) w.1)
    works_then (look_then i q p r) k w = (w.0, works_then p (look_at k i false) w.1, works_then r (look_at k i true) w.2)

    pub reach_then : (k h : ℕ) → Reach (first_leg n S R) k h → ReachThen S R k h
    reach_then k h w = (w.0, then_works w.0 k w.1, w.2)

    pub then_reach : (k h : ℕ) → ReachThen S R k h → Reach (first_leg n S R) k h
    then_reach k h w = (w.0, works_then w.0 k w.1, w.2)

    -- what a rank of the first leg says, of every state: the least height of such a plan, or 255 and there is none
    pub rank_then : (k r : ℕ) → IsRank (first_leg n S R) k r → Least (ReachThen S R k) r ⊎ ((r ≡ 255) × ((p : Plan) → WorksThen S R k p → ⊥))
    rank_then k r (inl a) = inl (record { here = reach_then k r a.here; none_below = λ j l w. a.none_below j l (then_reach k j w) })
    rank_then k r (inr a) = inr (a.0, λ p w. a.1 p (works_then p k w))

module _ (S R : System) where
  -- a plan of two legs is a plan of the first team alone
  pub first_works : (p : Plan) (k : ℕ) → WorksThen S R k p → Works S k p
  first_works stop k w = w.0
  first_works (set_then i q b p) k w = (w.0, first_works p (set_to k i b) w.1)
  first_works (look_then i q p r) k w = (w.0, first_works p (look_at k i false) w.1, first_works r (look_at k i true) w.2)

  -- and where the second team's goal is settled at every state, every plan of the first team is one of two legs
  pub then_nothing : ((k : ℕ) → T (R.goal k)) → (p : Plan) (k : ℕ) → Works S k p → WorksThen S R k p
  then_nothing all stop k w = (w, (stop, all k))
  then_nothing all (set_then i q b p) k w = (w.0, then_nothing all p (set_to k i b) w.1)
  then_nothing all (look_then i q p r) k w = (w.0, then_nothing all p (look_at k i false) w.1, then_nothing all r (look_at k i true) w.2)
