-- No plan works from a state of a trap: a list of states, none with the goal, where every act has an outcome in the list again. A
-- plan would have to stop in it. The test is computed, so that "cannot" is shown by giving the list.
use mathlib.Core.Logic.{inl, inr}
use mathlib.Core.List.{List}
use mathlib.Core.Bool.{Bool, true, false, not, ◌&&◌, ◌||◌}
use Prim.Native.Nat.{ℕ}
use lib.Dec.{T}
use Rattle.ground.proofs.Bools.{and_left, and_right, or_out, both}
use Rattle.knowledge_acts.specs.Acts.{set_to, look_at}
use Rattle.knowledge_acts.specs.declared.act.Act.{Act}
use Rattle.knowledge_acts.specs.declared.act.Act.TheVariants.{Set, Look}
use Rattle.knowledge.specs.Fits.{implies}
use Rattle.plan.specs.Plans.{System, may, Lawful, Plan, stop, set_then, look_then, Works}
use Rattle.plan.specs.Ranks.{Cannot}
use Rattle.plan.proofs.Acts.{every_act, every_at}
use Rattle.plan.proofs.States.{elem, each, each_at, holds}

-- one of the act's outcomes is in the list
abbrev pub back : List ℕ → ℕ → Act → Bool
back l k (Set i q b) = elem (set_to k i b) l
back l k (Look i q) = elem (look_at k i false) l || elem (look_at k i true) l

-- if the act may be done at k, it leads back into the list
abbrev pub caught : System → List ℕ → ℕ → Act → Bool
caught S l k a = implies (may S k a) (back l k a)

-- the goal is settled nowhere in the list, and every act at a state of it leads back into it
-- (who names it on an `unfolding` line unfolds all of it, so that the test computes)
unfoldable pub trap : ℕ → System → List ℕ → Bool
unfolding each elem every_act
trap n S l = each (λ k. not (S.goal k) && every_act n (caught S l k)) l

module _ {n : ℕ} {S : System} (law : Lawful n S) (l : List ℕ) (t : T (trap n S l)) where
  unsettled : (k : ℕ) → T (elem k l) → T (not (S.goal k))
  unfolding trap
  unsettled k m =
      and_left (not (S.goal k)) (every_act n (caught S l k)) (each_at (λ k. not (S.goal k) && every_act n (caught S l k)) l k t m)

  leads_back : (k : ℕ) (a : Act) → T (elem k l) → T (may S k a) → T (back l k a)
  unfolding trap
  leads_back k a m h =
      holds (may S k a) (back l k a) h
      (every_at n (caught S l k) a
      (and_right (not (S.goal k)) (every_act n (caught S l k)) (each_at (λ k. not (S.goal k) && every_act n (caught S l k)) l k t m))
      (law.setting_of_case k a h) (law.post_of_case k a h))

  no_plan : (p : Plan) (k : ℕ) → T (elem k l) → Works S k p → ⊥
  no_plan stop k m w = both (S.goal k) w (unsettled k m)
  no_plan (set_then i q b p) k m w = no_plan p (set_to k i b) (leads_back k (Set i q b) m w.0) w.1
  no_plan (look_then i q p r) k m w =
      elim (or_out (elem (look_at k i false) l) (elem (look_at k i true) l) (leads_back k (Look i q) m w.0)) [
        | inl x ↦ no_plan p (look_at k i false) x w.1
        | inr x ↦ no_plan r (look_at k i true) x w.2
      ]

  pub trapped : (k : ℕ) → T (elem k l) → Cannot S k
  trapped k m p w = no_plan p k m w
