-- A finite rank is at most 2 ^ (n + 1) - 2: over the class of a state, layers past those that suffice for the states with fewer
-- unknown settings grow, a standstill lasts, and so they stand still after as many layers as the class has states.
use mathlib.Core.Path.{◌≡◌}
use mathlib.Core.Logic.{inl, inr}
use Prim.Native.Nat.{ℕ, zero, suc, ◌+◌, ◌-◌, ◌^◌, ◌≤◌, ◌<◌}
use native.Mathlib.Nat.{pow-zero, pow-succ', zero-add, suc-add, sub-zero, suc-sub-suc}
use native.Mathlib.Omega.{arith}
use lib.Dec.{T}
use Rattle.ground.proofs.Bools.{lt_or_ge}
use Rattle.plan.specs.Plans.{System, Lawful, Plan, Works, height}
use Rattle.plan.specs.Pending.{unknowns}
use Rattle.plan.proofs.Unknowns.{unknowns_le}
use Rattle.plan.proofs.Class.{Mates, mates_self, class, covers, class_length, stays}
use Rattle.plan.specs.Layers.{below}
use Rattle.plan.proofs.Layers.{Within, sound, complete, step, next, to_higher}
use Rattle.plan.proofs.Pigeonhole.{settles}

-- the layer that suffices for states with fewer than u unknown settings
abbrev far : ℕ → ℕ → ℕ
far n zero = 0
far n (suc u) = 2 ^ (n - u) + far n u

far_sum : (n u : ℕ) → u ≤ suc n → far n u + 2 ^ (suc n - u) ≡ 2 ^ suc n
far_sum n zero h = rw (sub-zero, zero-add)
far_sum n (suc u) h =
    let same : suc n - u ≡ suc (n - u) = omega arith in
    rw suc-sub-suc (omega (arith, rw (same, pow-succ' 2 (n - u)) at (far_sum n u (omega arith))))

far_last : (n : ℕ) → far n (suc n) + 1 ≡ 2 ^ suc n
far_last n =
    let same : suc n - suc n ≡ 0 = omega arith in
    rw (same, pow-zero) at (far_sum n (suc n) (omega arith))

module _ {n : ℕ} {S : System} (law : Lawful n S) where
  class_bound : (u k : ℕ) → unknowns n k ≡ u
      → ((x : ℕ) → unknowns n x < u → (h : ℕ) → T (below n S h x) → T (below n S (far n u) x))
      → (h : ℕ) → T (below n S h k) → T (below n S (far n (suc u)) k)
  class_bound u k e deeper h t =
      rw (class_length n k, e) at
      (settles (λ t a. below n S (t + far n u) a) (Mates n k) (class n k) (covers n k)
      (λ t a m. rw suc-add (next law (t + far n u) a m))
      (λ t still a m b. rw suc-add (step law (suc t + far n u) (t + far n u) a (λ c x may o r. elim (stays law k a x c m may o) [
        | inl mate ↦ still x mate r
        | inr less ↦ to_higher law (far n u) (t + far n u) x (omega arith) (deeper x (omega arith) (suc t + far n u) r)
      ]) (rw suc-add at b)))
      h k (mates_self n k) (to_higher law h (h + far n u) k (omega arith) t))

  bounded : (u k : ℕ) → unknowns n k < u → (h : ℕ) → T (below n S h k) → T (below n S (far n u) k)
  bounded zero k l h t = absurd (omega arith)
  bounded (suc u) k l h t = elim (lt_or_ge (unknowns n k) u) [
    | inl m ↦ to_higher law (far n u) (far n (suc u)) k (omega arith) (bounded u k m h t)
    | inr m ↦ class_bound u k (omega arith) (λ x m h t. bounded u x m h t) h t
  ]

  pub bound : (h k : ℕ) → T (below n S h k) → T (below n S (2 ^ suc n - 1) k)
  bound h k t =
      let same : far n (suc n) ≡ 2 ^ suc n - 1 = omega (arith, far_last n) in
      rw same at (bounded (suc n) k (omega (arith, unknowns_le n k)) h t)

  -- where a plan works, one of height at most 2 ^ (n + 1) - 2 does
  pub short-plan : (k : ℕ) (p : Plan) → Works S k p → Within S (2 ^ suc n - 1) k
  short-plan k p w = sound law (2 ^ suc n - 1) k (bound (suc (height p)) k (complete law p (suc (height p)) k w (omega arith)))
