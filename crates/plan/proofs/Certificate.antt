-- A certified table is the table of ranks: an entry below 255 has a plan, by induction on the entry; no plan is lower than its
-- state's entry, by induction on the plan; and at 255 no plan works, since one of height at most 254 would.
use mathlib.Core.Logic.{inl, inr}
use mathlib.Core.Bool.{true, false}
use Prim.Native.Nat.{ℕ, zero, suc, max, ◌^◌, ◌≤◌, ◌<◌}
use native.Mathlib.Omega.{arith}
use lib.Dec.{T}
use lib.Pow.{pow_mono}
use Rattle.ground.proofs.Bools.{lt_or_ge}
use Rattle.knowledge_acts.specs.Acts.{set_to, look_at}
use Rattle.knowledge_acts.proofs.Outcomes.{set_below, look_below}
use Rattle.knowledge_acts.specs.declared.act.Act.{Act}
use Rattle.knowledge_acts.specs.declared.act.Act.TheVariants.{Set, Look}
use Rattle.plan.specs.Plans.{System, may, Lawful, Outcome, after_set_case, after_look, Plan, stop, set_then, look_then, Works, height}
use Rattle.plan.specs.Ranks.{IsRank}
use Rattle.plan.specs.Certificate.{Certified}
use Rattle.plan.proofs.Acts.{after_a_set, after_a_look}
use Rattle.plan.proofs.Layers.{Within, act_then}
use Rattle.plan.proofs.Bound.{short-plan}

-- an act's outcomes are knowledge numbers of n settings again
pub outcome_lt : {n : ℕ} {S : System} (law : Lawful n S) {k x : ℕ} {a : Act} → T (may S k a) → Outcome k a x → k < 7 ^ n → x < 7 ^ n
outcome_lt {n} law {k} m (after_set_case i q b) h = set_below k i b n h (law.setting_of_case k (Set i q b) m)
outcome_lt {n} law {k} m (after_look i q b) h = look_below k i b n h (law.setting_of_case k (Look i q) m)

-- acts do not lead out of the states with an entry
abbrev pub Closed : System → (ℕ → Type 0) → Type 0
Closed S Has = (k x : ℕ) (a : Act) → Has k → T (may S k a) → Outcome k a x → Has x

-- all knowledge numbers of n settings
pub numbers_closed : {n : ℕ} {S : System} → Lawful n S → Closed S (λ k. k < 7 ^ n)
numbers_closed law k x a h m o = outcome_lt law m o h

module _ {n : ℕ} {S : System} {Has : ℕ → Type 0} {table : ℕ → ℕ} (law : Lawful n S) (closed : Closed S Has) (good : Certified Has S table) where
  -- an entry below 255 has a plan of at most that height
  plan-at : (h k : ℕ) → table k < h → Has k → table k < 255 → Within S (suc (table k)) k
  plan-at zero k l b f = absurd (omega arith)
  plan-at (suc h) k l b f = elim (good.reached k b f) [
    | inl g ↦ (stop, g, omega arith)
    | inr r ↦ act_then S (table k) k r.0 r.1.allowed (λ x o.
        let e = r.1.lower x o in
        let w = plan-at h x (omega arith) (closed k x r.0 b r.1.allowed o) (omega arith) in
        (w.0, w.1, omega (arith, w.2)))
  ]

  -- no plan is lower than the entry
  none-lower : (p : Plan) (k : ℕ) → Has k → Works S k p → table k ≤ height p
  none-lower stop k b w = omega (arith, good.settled k b w)
  none-lower (set_then i q v p) k b w =
      good.least k b (Set i q v) (suc (height p)) record {
        allowed = w.0;
        lower = λ x. after_a_set (λ x. table x < suc (height p))
            (omega (arith, none-lower p (set_to k i v) (closed k (set_to k i v) (Set i q v) b w.0 (after_set_case i q v)) w.1));
      }
  none-lower (look_then i q p r) k b w =
      good.least k b (Look i q) (suc (max (height p) (height r))) record {
        allowed = w.0;
        lower = λ x. after_a_look (λ x. table x < suc (max (height p) (height r)))
            (omega (arith, none-lower p (look_at k i false) (closed k (look_at k i false) (Look i q) b w.0 (after_look i q false)) w.1))
            (omega (arith, none-lower r (look_at k i true) (closed k (look_at k i true) (Look i q) b w.0 (after_look i q true)) w.2));
      }

  pub certified : n ≤ 7 → (k : ℕ) → Has k → IsRank S k (table k)
  certified l k b = elim (lt_or_ge (table k) 255) [
    | inl f ↦ (let w = plan-at (suc (table k)) k (omega arith) b f in inl record {
      here = (w.0, w.1, omega (arith, w.2, none-lower w.0 k b w.1));
      none_below = λ j m q. absurd (omega (arith, q.2, none-lower q.0 k b q.1));
    })
    | inr f ↦ inr (
      omega (arith, good.most k b),
      λ p w.
          let v = short-plan law k p w in
          absurd (omega (arith, v.2, none-lower v.0 k b v.1, pow_mono {i = suc n} {j = 8} (omega arith))),
    )
  ]
