-- Tests over a list of states that is written out, as computed answers.
use mathlib.Core.Logic.{inl, inr}
use mathlib.Core.List.{List, [], ◌∷◌}
use mathlib.Core.Bool.{Bool, true, false, ◌&&◌, ◌||◌}
use Prim.Native.Nat.{ℕ}
use lib.Dec.{T, eqb, eqb→eq}
use Rattle.ground.proofs.Bools.{and_left, and_right, or_out}
use Rattle.knowledge.specs.Fits.{implies}

unfoldable pub elem : ℕ → List ℕ → Bool
elem k [] = false
elem k (x ∷ l) = eqb k x || elem k l

-- f at every state of the list
unfoldable pub each : (ℕ → Bool) → List ℕ → Bool
each f [] = true
each f (x ∷ l) = f x && each f l

pub each_at : (f : ℕ → Bool) (l : List ℕ) (k : ℕ) → T (each f l) → T (elem k l) → T (f k)
unfolding each elem
each_at f [] k h m = absurd m
each_at f (x ∷ l) k h m = elim (or_out (eqb k x) (elem k l) m) [
  | inl e ↦ rw (eqb→eq k x e) (and_left (f x) (each f l) h)
  | inr r ↦ each_at f l k (and_right (f x) (each f l) h) r
]

pub holds : (a b : Bool) → T a → T (implies a b) → T b
holds true b x y = y
holds false b x y = elim x [ ]
