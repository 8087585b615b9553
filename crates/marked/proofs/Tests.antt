-- A list of tests that hold together, and two texts that are the same: what a computed answer gives.
use mathlib.Core.Path.{◌≡◌, refl, ap₂}
use mathlib.Core.Logic.{◌⊎◌, inl, inr}
use mathlib.Core.List.{List, [], ◌∷◌}
use mathlib.Core.Bool.{Bool, true, false, not, ◌&&◌}
use Prim.Native.Nat.{ℕ, zero, suc}
use lib.Dec.{T, eqb, eqb→eq}
use lib.ListN.{get_or}
use Rattle.ground.proofs.Bools.{and_left, and_right}

unfoldable pub every : List Bool → Bool
every [] = true
every (b ∷ bs) = b && every bs

-- each of them
pub pick : (bs : List Bool) (i : ℕ) → T (every bs) → T (get_or bs i true)
unfolding every
pick [] i h = tt
pick (b ∷ bs) zero h = and_left b (every bs) h
pick (b ∷ bs) (suc i) h = pick bs i (and_right b (every bs) h)

-- a test, decided in a way that computes
unfoldable pub whether : (a : Bool) → T a ⊎ T (not a)
whether true = inl tt
whether false = inr tt

unfoldable pub same : List ℕ → List ℕ → Bool
same [] [] = true
same [] (y ∷ ys) = false
same (x ∷ xs) [] = false
same (x ∷ xs) (y ∷ ys) = eqb x y && same xs ys

pub same_out : (xs ys : List ℕ) → T (same xs ys) → xs ≡ ys
unfolding same
same_out [] [] h = refl
same_out [] (y ∷ ys) h = absurd h
same_out (x ∷ xs) [] h = absurd h
same_out (x ∷ xs) (y ∷ ys) h = ap₂ ◌∷◌ (eqb→eq x y (and_left (eqb x y) (same xs ys) h)) (same_out xs ys (and_right (eqb x y) (same xs ys) h))
