-- A test over all numbers below n, against the statement over all numbers below n: by recursion on n.
use mathlib.Core.Path.{◌≡◌, refl, ap₂}
use mathlib.Core.Logic.{◌⊎◌, inl, inr}
use mathlib.Core.Bool.{Bool, not, ◌&&◌}
use Prim.Native.Nat.{ℕ, zero, suc, ◌<◌}
use native.Mathlib.Nat.{lt-suc_self}
use native.Mathlib.Omega.{arith}
use lib.Dec.{T}
use Rattle.ground.specs.Search.{all, any, Least}
use Rattle.ground.proofs.Bools.{and_in, and_left, and_right, or_left, or_right, or_out, decide, lt_or_ge}

-- a number below n + 1 is n or below n
pub below_suc : {A : Type 0} (i n : ℕ) → i < suc n → (i ≡ n → A) → (i < n → A) → A
below_suc i n h f g = elim (lt_or_ge i n) [ inl l ↦ g l | inr l ↦ f (omega arith) ]

pub all-at : (n : ℕ) (f : ℕ → Bool) → T (all n f) → (i : ℕ) → i < n → T (f i)
unfolding all
all-at zero f h i l = absurd (omega arith)
all-at (suc n) f h i l =
    below_suc i n l
    (λ e. rw e (and_left (f n) (all n f) h))
    (λ k. all-at n f (and_right (f n) (all n f) h) i k)

pub all_intro : (n : ℕ) (f : ℕ → Bool) → ((i : ℕ) → i < n → T (f i)) → T (all n f)
unfolding all
all_intro zero f h = tt
all_intro (suc n) f h =
    and_in (f n) (all n f) (h n (lt-suc_self n)) (all_intro n f (λ i l. h i (omega arith)))

pub any_intro : (n : ℕ) (f : ℕ → Bool) (i : ℕ) → i < n → T (f i) → T (any n f)
unfolding any
any_intro zero f i l h = absurd (omega arith)
any_intro (suc n) f i l h =
    below_suc i n l
    (λ e. or_left (f n) (any n f) (rw e at h))
    (λ k. or_right (f n) (any n f) (any_intro n f i k h))

pub any_elim : (n : ℕ) (f : ℕ → Bool) → T (any n f) → (i : ℕ) × (i < n) × T (f i)
unfolding any
any_elim zero f h = absurd h
any_elim (suc n) f h =
    elim (or_out (f n) (any n f) h) [
      | inl k ↦ (n, lt-suc_self n, k)
      | inr k ↦ (let r = any_elim n f k in (r.0, omega (arith, r.1), r.2))
    ]

-- the finite search: f everywhere below n, or a number below n where it fails
pub all_or : (n : ℕ) (f : ℕ → Bool) → T (all n f) ⊎ ((i : ℕ) × (i < n) × T (not (f i)))
unfolding all
all_or zero f = inl tt
all_or (suc n) f =
    elim (decide (f n)) [
      | inr k ↦ inr (n, lt-suc_self n, k)
      | inl k ↦ elim (all_or n f) [
        | inl r ↦ inl (and_in (f n) (all n f) k r)
        | inr r ↦ inr (r.0, omega (arith, r.1), r.2)
      ]
    ]

pub all_ext : (n : ℕ) (f g : ℕ → Bool) → ((i : ℕ) → i < n → f i ≡ g i) → all n f ≡ all n g
unfolding all
all_ext zero f g h = refl
all_ext (suc n) f g h = ap₂ ◌&&◌ (h n (lt-suc_self n)) (all_ext n f g (λ i l. h i (omega arith)))

-- the least number is the only one
pub least_unique : {P : ℕ → Type 0} {i j : ℕ} → Least P i → Least P j → i ≡ j
least_unique {P} {i} {j} a b =
    elim (lt_or_ge i j) [
      | inl l ↦ absurd (b.none_below i l a.here)
      | inr l ↦ elim (lt_or_ge j i) [
        | inl k ↦ absurd (a.none_below j k b.here)
        | inr k ↦ omega arith
      ]
    ]
