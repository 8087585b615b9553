-- Any system, and the same without the sets that change nothing (R-9): both have the same ranks, the same plan written and the same layers, so that
-- what a finder answers by one it answers by the other. The least plan with such sets left out is no higher, and a set that leads back to its own
-- state leads to no lower rank, so that no plan written has it.
use mathlib.Core.Path.{◌≡◌, ap, fun_ext, subst}
use mathlib.Core.Logic.{inl, inr, ◌↔◌}
use mathlib.Core.Bool.{Bool, true, false, not, ◌&&◌}
use Prim.Native.Nat.{ℕ, suc, ◌-◌, ◌^◌, ◌<◌}
use native.Mathlib.Omega.{arith}
use lib.Dec.{T, not_T}
use Rattle.ground.specs.Digits.{digit}
use Rattle.ground.specs.Search.{Least}
use Rattle.ground.proofs.Bools.{T_iff}
use Rattle.knowledge_acts.specs.Acts.{set_to, look_at}
use Rattle.knowledge_acts.specs.declared.act.Act.{Act}
use Rattle.knowledge_acts.specs.declared.act.Act.TheVariants.{Set, Look}
use Rattle.plan.specs.Plans.{System, Lawful, after_set_case, Plan, stop, set_then, look_then}
use Rattle.plan.specs.Ranks.{Reach, Cannot, IsRank, Lowers, Chosen, Written}
use Rattle.plan.specs.Layers.{below}
use Rattle.plan.specs.Legs.{can_from, with_goal, first_leg}
use Rattle.plan.specs.Without.{changes_nothing, without, leaving_out}
use Rattle.plan.proofs.Compare.{works_more, reach_more, cannot_less}
use Rattle.plan.proofs.Layers.{sound, complete}
use Rattle.plan.proofs.Ranks.{rank_unique, rank-least}
use Rattle.plan.proofs.Unchanged.{nothing_set, may_exactly, permits_fewer, without_lawful}
use Rattle.plan.proofs.LeavingOut.{leaving_works, leaving_height}

-- ---- the same heights and ranks

module _ (S : System) where
  -- the least height, both ways
  pub least-same : (k h : ℕ) → Least (Reach S k) h ↔ Least (Reach (without S) k) h
  least-same k h = (
    λ l. record { here = kept l; none_below = λ j m q. l.none_below j m (reach_more (permits_fewer S) k j q) },
    λ l. record {
      here = reach_more (permits_fewer S) k h l.here;
      none_below = λ j m q. fewer l j m q;
    },
  )
    where
      kept : Least (Reach S k) h → Reach (without S) k h
      kept l =
          let p = l.here.0 in
          let w = leaving_works S p k l.here.1 in (
            leaving_out k p,
            w,
            omega (
              arith,
              l.here.2,
              leaving_height p k,
              rank-least S k (inl l) (leaving_out k p) (works_more (permits_fewer S) (leaving_out k p) k w),
            ),
          )

      fewer : Least (Reach (without S) k) h → (j : ℕ) → j < h → Reach S k j → ⊥
      fewer l j m q =
          omega (
            arith,
            q.2,
            leaving_height q.0 k,
            rank-least (without S) k (inl l) (leaving_out k q.0) (leaving_works S q.0 k q.1),
          )

  -- "none works", both ways
  pub cannot_same : (k : ℕ) → Cannot S k ↔ Cannot (without S) k
  cannot_same k = (cannot_less (permits_fewer S) k, λ none p w. none (leaving_out k p) (leaving_works S p k w))

  -- the same ranks
  pub rank_same : (k r : ℕ) → IsRank S k r ↔ IsRank (without S) k r
  rank_same k r = (into, back)
    where
      into : IsRank S k r → IsRank (without S) k r
      into (inl l) = inl ((least-same k r).0 l)
      into (inr c) = inr (c.0, (cannot_same k).0 c.1)

      back : IsRank (without S) k r → IsRank S k r
      back (inl l) = inl ((least-same k r).1 l)
      back (inr c) = inr (c.0, (cannot_same k).1 c.1)

  -- ---- the same plan written

  -- an act that lowers its state's rank changes something, since what changes nothing leads to the state itself
  lowers_something : (k r : ℕ) (a : Act) → IsRank S k r → Lowers S k r a → T (not (changes_nothing (digit 7 k) a))
  unfolding changes_nothing
  lowers_something k r (Set i q b) is l = not_T (changes_nothing (digit 7 k) (Set i q b)) (λ t.
      let (s, low, less) = l.lower (set_to k i b) (after_set_case i q b) in
      omega (arith, less, rank_unique S k is (subst (λ (x : ℕ). IsRank S x s) ((nothing_set k i q b).0 t) low)))
  lowers_something k r (Look i q) is l = tt

  lowers_in : (k r : ℕ) (a : Act) → IsRank S k r → Lowers S k r a → Lowers (without S) k r a
  lowers_in k r a is l = record {
    allowed = (may_exactly S k a).1 (l.allowed, lowers_something k r a is l);
    lower = λ x o. let (s, low, less) = l.lower x o in (s, (rank_same x s).0 low, less);
  }

  lowers_out : (k r : ℕ) (a : Act) → Lowers (without S) k r a → Lowers S k r a
  lowers_out k r a l = record {
    allowed = ((may_exactly S k a).0 l.allowed).0;
    lower = λ x o. let (s, low, less) = l.lower x o in (s, (rank_same x s).1 low, less);
  }

  -- the same act is chosen
  pub chosen_same : (k : ℕ) (a : Act) → Chosen S k a ↔ Chosen (without S) k a
  chosen_same k a = (
    λ c. record {
      rank = c.rank;
      is_rank = (rank_same k c.rank).0 c.is_rank;
      lowers = lowers_in k c.rank a c.is_rank c.lowers;
      smallest = λ d l. c.smallest d (lowers_out k c.rank d l);
    },
    λ c. record {
      rank = c.rank;
      is_rank = (rank_same k c.rank).1 c.is_rank;
      lowers = lowers_out k c.rank a c.lowers;
      smallest = λ d l. c.smallest d (lowers_in k c.rank d ((rank_same k c.rank).1 c.is_rank) l);
    },
  )

  written_in : (p : Plan) (k : ℕ) → Written S k p → Written (without S) k p
  written_in stop k w = (rank_same k 0).0 w
  written_in (set_then i q b p) k w = ((chosen_same k (Set i q b)).0 w.0, written_in p (set_to k i b) w.1)
  written_in (look_then i q p r) k w =
      ((chosen_same k (Look i q)).0 w.0, written_in p (look_at k i false) w.1, written_in r (look_at k i true) w.2)

  written_out : (p : Plan) (k : ℕ) → Written (without S) k p → Written S k p
  written_out stop k w = (rank_same k 0).1 w
  written_out (set_then i q b p) k w = ((chosen_same k (Set i q b)).1 w.0, written_out p (set_to k i b) w.1)
  written_out (look_then i q p r) k w =
      ((chosen_same k (Look i q)).1 w.0, written_out p (look_at k i false) w.1, written_out r (look_at k i true) w.2)

  -- the same plan is written
  pub written_same : (p : Plan) (k : ℕ) → Written S k p ↔ Written (without S) k p
  written_same p k = (written_in p k, written_out p k)

  -- ---- the same layers

  pub below-same : {n : ℕ} (law : Lawful n S) (h k : ℕ) → below n S h k ≡ below n (without S) h k
  below-same {n} law h k =
      T_iff (below n S h k) (below n (without S) h k)
      (λ t. let (p, w, l) = sound law h k t in
      complete (without_lawful S law) (leaving_out k p) h k (leaving_works S p k w) (omega (arith, leaving_height p k)))
      (λ t. let (p, w, l) = sound (without_lawful S law) h k t in
      complete law p h k (works_more (permits_fewer S) p k w) l)

-- two legs: whether the second team does such sets or not, and whether the first does, the first leg is the same but for them
module _ {n : ℕ} (S : System) {R : System} (law : Lawful n R) where
  pub leg_same : first_leg n S R ≡ first_leg n S (without R)
  unfolding first_leg can_from
  leg_same = ap (λ (goal : ℕ → Bool). with_goal S goal) (fun_ext (λ k. ap (λ (can : Bool). S.goal k && can) (below-same R law (2 ^ suc n - 1) k)))

  pub leg_without : without (first_leg n S R) ≡ first_leg n (without S) (without R)
  unfolding first_leg
  leg_without = ap without leg_same
