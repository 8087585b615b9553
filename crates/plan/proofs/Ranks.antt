-- Ranks are unique, every state has one, and a rank below h is a place in layer h: the least layer of a state is one past the
-- least height of a working plan.
use mathlib.Core.Path.{◌≡◌, refl, sym, ◌∙◌}
use mathlib.Core.Logic.{◌⊎◌, inl, inr, ◌↔◌}
use mathlib.Core.Bool.{Bool, not}
use Prim.Native.Nat.{ℕ, zero, suc, ◌-◌, ◌^◌, ◌≤◌, ◌<◌}
use native.Mathlib.Omega.{arith}
use lib.Dec.{T}
use lib.Pow.{pow_mono}
use Rattle.ground.specs.Search.{Least}
use Rattle.ground.proofs.Bools.{decide, both, lt_or_ge}
use Rattle.ground.proofs.Search.{least_unique}
use Rattle.plan.specs.Plans.{System, Lawful, Plan, Works, height}
use Rattle.plan.specs.Ranks.{Reach, IsRank}
use Rattle.plan.specs.Layers.{below}
use Rattle.plan.proofs.Layers.{sound, complete}
use Rattle.plan.proofs.Bound.{bound, short-plan}

-- the least number below h at which a test holds, or it holds at none
pub first : (f : ℕ → Bool) (h : ℕ) → ((i : ℕ) × Least (λ i. T (f i)) i × (i < h)) ⊎ ((j : ℕ) → j < h → T (not (f j)))
first f zero = inr (λ j l. absurd (omega arith))
first f (suc h) = elim (first f h) [
  | inl r ↦ inl (r.0, r.1, omega (arith, r.2))
  | inr none ↦ elim (decide (f h)) [
    | inl t ↦ inl (h, record { here = t; none_below = λ j l u. both (f j) u (none j l) }, omega arith)
    | inr t ↦ inr (λ j l. elim (lt_or_ge j h) [
      | inl m ↦ none j m
      | inr m ↦ (let e : j ≡ h = omega arith in rw e t)
    ])
  ]
]

pub first_of : (f : ℕ → Bool) (h : ℕ) → T (f h) → (i : ℕ) × Least (λ i. T (f i)) i × (i < suc h)
first_of f h t = elim (first f (suc h)) [ inl r ↦ r | inr none ↦ both (f h) t (none h (omega arith)) ]

-- "255 if none works": no rank is both
pub rank_unique : (S : System) (k : ℕ) {r s : ℕ} → IsRank S k r → IsRank S k s → r ≡ s
rank_unique S k (inl a) (inl b) = least_unique a b
rank_unique S k (inl a) (inr b) = absurd (b.1 a.here.0 a.here.1)
rank_unique S k (inr a) (inl b) = absurd (a.1 b.here.0 b.here.1)
rank_unique S k (inr a) (inr b) = a.0 ∙ sym b.0

-- the rank is at most the height of any working plan
pub rank-least : (S : System) (k : ℕ) {r : ℕ} → IsRank S k r → (p : Plan) → Works S k p → r ≤ height p
rank-least S k {r} (inl a) p w = elim (lt_or_ge (height p) r) [ inl l ↦ absurd (a.none_below (height p) l (p, w, refl)) | inr l ↦ l ]
rank-least S k (inr a) p w = absurd (a.1 p w)

module _ {n : ℕ} {S : System} (law : Lawful n S) where
  -- the least layer of a state, less one, is its rank
  layer_rank : (k r : ℕ) → Least (λ i. T (below n S (suc i) k)) r → Least (Reach S k) r
  layer_rank k r least =
      let w = sound law (suc r) k least.here in
      record {
        here = (
          w.0,
          w.1,
          elim (lt_or_ge (height w.0) r) [
            | inl l ↦ absurd (least.none_below (height w.0) l (complete law w.0 (suc (height w.0)) k w.1 (omega arith)))
            | inr l ↦ omega (arith, w.2)
          ],
        );
        none_below = λ j l q. least.none_below j l (complete law q.0 (suc j) k q.1 (omega (arith, q.2)));
      }

  pub has-rank : (k : ℕ) → (r : ℕ) × IsRank S k r
  has-rank k = elim (decide (below n S (2 ^ suc n - 1) k)) [
    | inl t ↦ (let w = sound law (2 ^ suc n - 1) k t in
        let r = first_of (λ i. below n S (suc i) k) (height w.0) (complete law w.0 (suc (height w.0)) k w.1 (omega arith)) in
        (r.0, inl (layer_rank k r.0 r.1)))
    | inr t ↦ (
      255,
      inr (
        refl,
        λ p w. both (below n S (2 ^ suc n - 1) k)
            (bound law (suc (height p)) k (complete law p (suc (height p)) k w (omega arith))) t,
      ),
    )
  ]

  -- "A rank other than 255 is at most 2^(n+1) − 2."
  pub rank_most : (k r : ℕ) → IsRank S k r → (r ≡ 255 → ⊥) → r ≤ 2 ^ suc n - 2
  rank_most k r (inl a) ne = let w = short-plan law k a.here.0 a.here.1 in omega (arith, w.2, rank-least S k (inl a) w.0 w.1)
  rank_most k r (inr a) ne = absurd (ne a.0)

  -- a working plan's rank is below 255, for up to seven settings
  pub rank-small : (k r : ℕ) → n ≤ 7 → Least (Reach S k) r → r < 255
  rank-small k r l a =
      let w = short-plan law k a.here.0 a.here.1 in
      omega (arith, w.2, rank-least S k (inl a) w.0 w.1, pow_mono {i = suc n} {j = 8} (omega arith))

  -- a rank other than 255 is there exactly where a plan works
  pub rank_reach : (k r : ℕ) → n ≤ 7 → IsRank S k r → (r < 255) ↔ ((p : Plan) × Works S k p)
  rank_reach k r l (inl a) = (λ h. (a.here.0, a.here.1), λ w. rank-small k r l a)
  rank_reach k r l (inr a) = (λ h. absurd (omega (arith, a.0)), λ w. absurd (a.1 w.0 w.1))

  -- a rank below h, and layer h
  pub rank_in : (k r h : ℕ) → IsRank S k r → r < h → h ≤ 255 → T (below n S h k)
  rank_in k r h (inl a) l m = complete law a.here.0 h k a.here.1 (omega (arith, a.here.2))
  rank_in k r h (inr a) l m = absurd (omega (arith, a.0))

  pub rank_out : (k h : ℕ) → T (below n S h k) → (r : ℕ) × IsRank S k r × (r < h)
  rank_out k h t =
      let w = sound law h k t in
      let r = has-rank k in
      (r.0, r.1, omega (arith, w.2, rank-least S k r.1 w.0 w.1))
