-- What the entries say. An entry bars the layers up to it, by induction on the height; a search that fails may raise its state's entry; and a value
-- that no state has is a gap, and the states above it are a trap, by induction on the plan.
use mathlib.Core.Path.{◌≡◌, ◌∙◌}
use mathlib.Core.Logic.{◌⊎◌, inl, inr}
use mathlib.Core.List.{List}
use mathlib.Core.Bool.{true, false}
use Prim.Native.Nat.{ℕ, zero, suc, ◌^◌, ◌≤◌, ◌<◌}
use native.Mathlib.Decide.{ℕ_discrete}
use native.Mathlib.Nat.{pow-le-pow_right}
use native.Mathlib.Omega.{arith}
use lib.Dec.{T, lit<}
use lib.ListN.{length, get_or, set, replicate, length-set, length-replicate, get_or-replicate}
use lib.Seq.{get_or-set_same, get_or-set_other}
use Rattle.ground.proofs.Bools.{lt_or_ge}
use Rattle.knowledge_acts.specs.Acts.{set_to, look_at}
use Rattle.knowledge_acts.specs.declared.act.Act.{Act}
use Rattle.knowledge_acts.specs.declared.act.Act.TheVariants.{Set, Look}
use Rattle.plan.specs.Plans.{System, may, Lawful, Outcome, Plan, stop, set_then, look_then, Works}
use Rattle.plan.specs.Ranks.{Cannot}
use Rattle.plan.specs.Layers.{below}
use Rattle.plan.proofs.Acts.{after_a_set, after_a_look}
use Rattle.plan.proofs.Layers.{layer_zero, layer_out}
use Rattle.plan.proofs.Certificate.{outcome_lt}
use Rattle.finder_plain.specs.Entries.{Bars, Grown}
use Rattle.finder_plain.specs.Gaps.{Gap}

-- a state of up to seven settings has an entry
pub states_most : {n k : ℕ} → n ≤ 7 → k < 7 ^ n → k < 823543
states_most {n} h l = omega (arith, pow-le-pow_right {n = 7} (lit< tt) {i = n} {j = 7} h)

pub grown-same : (entries : List ℕ) → Grown entries entries
grown-same entries = record { up = λ k. omega arith }

pub grown-more : {a b c : List ℕ} → Grown a b → Grown b c → Grown a c
grown-more f g = record { up = λ k. omega (arith, f.up k, g.up k) }

-- before any search nothing is barred
pub first-bars : (n : ℕ) (S : System) (count : ℕ) → count ≡ 823543 → n ≤ 7 → Bars n S (replicate count 0)
first-bars n S count e few = record {
  size = length-replicate count 0 ∙ e;
  unsettled = λ k l p g. absurd (none k l p);
  near = λ k l p a m. absurd (none k l p);
}
  where
    none : (k : ℕ) → k < 7 ^ n → 0 < get_or (replicate count 0) k 0 → ⊥
    none k l p = omega (arith, get_or-replicate {A = ℕ} count k 0 0 (omega (arith, e, states_most few l)))

module _ {n : ℕ} {S : System} (law : Lawful n S) {entries : List ℕ} (bars : Bars n S entries) where
  -- no plan of a height below the entry works
  pub barred : (h k : ℕ) → k < 7 ^ n → h ≤ get_or entries k 0 → T (below n S h k) → ⊥
  barred zero k b l t = layer_zero law k t
  barred (suc h) k b l t = elim (layer_out law h k t) [
    | inl g ↦ bars.unsettled k b (omega arith) g
    | inr r ↦ (let e = bars.near k b (omega arith) r.0 r.1 in
        barred h e.0 (outcome_lt law r.1 e.1 b) (omega (arith, e.2)) (r.2 e.0 e.1))
  ]

  -- ---- a gap

  module _ (v : ℕ) (nowhere : (k : ℕ) → k < 7 ^ n → get_or entries k 0 ≡ v → ⊥) where
    above : (k x : ℕ) → x < 7 ^ n → v < get_or entries k 0 → get_or entries k 0 ≤ suc (get_or entries x 0) → v < get_or entries x 0
    above k x b l m = elim (lt_or_ge v (get_or entries x 0)) [ inl u ↦ u | inr u ↦ absurd (nowhere x b (omega arith)) ]

    no_plan : (p : Plan) (k : ℕ) → k < 7 ^ n → v < get_or entries k 0 → Works S k p → ⊥
    no_plan stop k b l w = bars.unsettled k b (omega arith) w
    no_plan (set_then i q c p) k b l w =
        let e = bars.near k b (omega arith) (Set i q c) w.0 in
        let u = outcome_lt law w.0 e.1 b in
        after_a_set (λ x. x < 7 ^ n → v < get_or entries x 0 → ⊥) (λ s t. no_plan p (set_to k i c) s t w.1) e.1 u (above k e.0 u l e.2)
    no_plan (look_then i q p r) k b l w =
        let e = bars.near k b (omega arith) (Look i q) w.0 in
        let u = outcome_lt law w.0 e.1 b in
        after_a_look (λ x. x < 7 ^ n → v < get_or entries x 0 → ⊥)
        (λ s t. no_plan p (look_at k i false) s t w.1) (λ s t. no_plan r (look_at k i true) s t w.2) e.1 u (above k e.0 u l e.2)

  -- what ends a "cannot" before the last height
  pub gap_cannot : {k top : ℕ} → k < 7 ^ n → top ≤ get_or entries k 0 → Gap n entries top → Cannot S k
  gap_cannot {k} b l g p w = no_plan g.value g.nowhere p k b (omega (arith, g.low)) w

  -- ---- an entry raised

  module _ (k h : ℕ) (state : k < 7 ^ n) (room : k < length entries) (rises : get_or entries k 0 ≤ h) where
    pub grown-set : Grown entries (set entries k h)
    grown-set = record {
      up = λ j. elim (ℕ_discrete j k) [
        | yes e ↦ rw (e, get_or-set_same entries k h 0 room) rises
        | no e ↦ rw (get_or-set_other entries k j h 0 e) (omega arith)
      ];
    }

    module _ (goal : T (S.goal k) → ⊥)
        (near : (a : Act) → T (may S k a) → (x : ℕ) × Outcome k a x × ((x ≡ k) ⊎ (h ≤ suc (get_or entries x 0)))) where
      near-here : (a : Act) → T (may S k a) → (x : ℕ) × Outcome k a x × (h ≤ suc (get_or (set entries k h) x 0))
      near-here a m =
          let e = near a m in (
            e.0,
            e.1,
            elim e.2 [
              | inl s ↦ rw (s, get_or-set_same entries k h 0 room) (omega arith)
              | inr s ↦ omega (arith, s, grown-set.up e.0)
            ],
          )

      pub raised : Bars n S (set entries k h)
      raised = record {
        size = length-set entries k h ∙ bars.size;
        unsettled = λ j l p g. elim (ℕ_discrete j k) [
          | yes e ↦ goal (rw e at g)
          | no e ↦ bars.unsettled j l (rw (get_or-set_other entries k j h 0 e) at p) g
        ];
        near = λ j l p a m. elim (ℕ_discrete j k) [
          | yes e ↦ (let r = near-here a (rw e at m) in rw (e, get_or-set_same entries k h 0 room) r)
          | no e ↦ (let r = bars.near j l (rw (get_or-set_other entries k j h 0 e) at p) a m in
              (r.0, r.1, rw (get_or-set_other entries k j h 0 e) (omega (arith, r.2, grown-set.up r.0))))
        ];
      }
