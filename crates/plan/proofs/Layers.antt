-- A working plan of height below h exists exactly where layer h says so (`sound`, `complete`): a layer has the goal's states and those with an act
-- into the layer before it, so a plan's first act takes both from one layer to the one before.
use mathlib.Core.Logic.{◌⊎◌, inl, inr}
use mathlib.Core.Bool.{true, false}
use Prim.Native.Nat.{ℕ, zero, suc, ◌+◌, ◌≤◌, ◌<◌}
use native.Mathlib.Nat.{zero-add, suc-add, add_comm, le_dest}
use native.Mathlib.Omega.{arith}
use lib.Dec.{T}
use Rattle.ground.proofs.Bools.{or_left, or_right, or_out}
use Rattle.knowledge_acts.specs.Acts.{set_to, look_at}
use Rattle.knowledge_acts.specs.declared.act.Act.{Act}
use Rattle.knowledge_acts.specs.declared.act.Act.TheVariants.{Set, Look}
use Rattle.plan.specs.Plans.{System, may, Lawful, Outcome, after_set_case, after_look, Plan, stop, set_then, look_then, Works, height}
use Rattle.plan.specs.Layers.{can, some_act, below}
use Rattle.plan.proofs.Acts.{after_a_set, after_a_look, some_in, some_out, can_in, can-may, can-at}

-- a working plan of height below h
abbrev pub Within : System → ℕ → ℕ → Type 0
Within S h k = (p : Plan) × Works S k p × (height p < h)

-- an act and a plan from each of its outcomes make a plan
pub act_then : (S : System) (h k : ℕ) (a : Act) → T (may S k a) → ((x : ℕ) → Outcome k a x → Within S h x) → Within S (suc h) k
act_then S h k (Set i q b) m f =
    let r = f (set_to k i b) (after_set_case i q b) in
    (set_then i q b r.0, (m, r.1), omega arith)
act_then S h k (Look i q) m f =
    let r = f (look_at k i false) (after_look i q false) in
    let s = f (look_at k i true) (after_look i q true) in
    (look_then i q r.0 s.0, (m, r.1, s.1), omega arith)

module _ {n : ℕ} {S : System} (law : Lawful n S) where
  pub layer_goal : (h k : ℕ) → T (S.goal k) → T (below n S (suc h) k)
  unfolding below
  layer_goal h k g = or_left (S.goal k) (some_act n (can S (below n S h) k)) g

  pub layer_act : (h k : ℕ) (a : Act) → T (may S k a) → ((x : ℕ) → Outcome k a x → T (below n S h x)) → T (below n S (suc h) k)
  unfolding below
  layer_act h k a m f =
      or_right (S.goal k) (some_act n (can S (below n S h) k))
      (some_in n (can S (below n S h) k) a (can_in S (below n S h) k a m f) (law.setting_of_case k a m) (law.post_of_case k a m))

  -- what a state of a layer has: the goal, or an act into the layer before
  pub layer_out : (h k : ℕ) → T (below n S (suc h) k) → T (S.goal k) ⊎ ((a : Act) × T (may S k a) × ((x : ℕ) → Outcome k a x → T (below n S h x)))
  unfolding below
  layer_out h k t =
      elim (or_out (S.goal k) (some_act n (can S (below n S h) k)) t) [
        | inl g ↦ inl g
        | inr s ↦ (let r = some_out n (can S (below n S h) k) s in
            inr (r.0, can-may S (below n S h) k r.0 r.1, λ x o. can-at S (below n S h) k r.0 r.1 o))
      ]

  pub layer_zero : (k : ℕ) → T (below n S 0 k) → ⊥
  unfolding below
  layer_zero k t = t

  pub sound : (h k : ℕ) → T (below n S h k) → Within S h k
  sound zero k t = absurd (layer_zero k t)
  sound (suc h) k t =
      elim (layer_out h k t) [
        | inl g ↦ (stop, g, omega arith)
        | inr r ↦ act_then S h k r.0 r.1 (λ x o. sound h x (r.2 x o))
      ]

  -- the step of every induction over layers: one layer implies another at k if the layers before do at each outcome
  pub step : (g h k : ℕ) → ((a : Act) (x : ℕ) → T (may S k a) → Outcome k a x → T (below n S g x) → T (below n S h x))
      → T (below n S (suc g) k) → T (below n S (suc h) k)
  step g h k f t =
      elim (layer_out g k t) [
        | inl e ↦ layer_goal h k e
        | inr r ↦ layer_act h k r.0 r.1 (λ x o. f r.0 x r.1 o (r.2 x o))
      ]

  pub complete : (p : Plan) (h k : ℕ) → Works S k p → height p < h → T (below n S h k)
  complete stop zero k w l = absurd (omega arith)
  complete stop (suc h) k w l = layer_goal h k w
  complete (set_then i q b p) zero k w l = absurd (omega arith)
  complete (set_then i q b p) (suc h) k w l =
      layer_act h k (Set i q b) w.0 (λ x. after_a_set (λ x. T (below n S h x)) (complete p h (set_to k i b) w.1 (omega arith)))
  complete (look_then i q p r) zero k w l = absurd (omega arith)
  complete (look_then i q p r) (suc h) k w l =
      layer_act h k (Look i q) w.0
      (λ x. after_a_look (λ x. T (below n S h x))
      (complete p h (look_at k i false) w.1 (omega arith)) (complete r h (look_at k i true) w.2 (omega arith)))

  pub next : (h k : ℕ) → T (below n S h k) → T (below n S (suc h) k)
  next zero k t = absurd (layer_zero k t)
  next (suc h) k t = step h (suc h) k (λ a x m o. next h x) t

  pub higher : (d h k : ℕ) → T (below n S h k) → T (below n S (d + h) k)
  higher zero h k t = rw zero-add t
  higher (suc d) h k t = rw suc-add (next (d + h) k (higher d h k t))

  pub to_higher : (g h k : ℕ) → g ≤ h → T (below n S g k) → T (below n S h k)
  to_higher g h k l t = let d = le_dest l in rw (← d.1, add_comm g d.0) (higher d.0 g k t)
