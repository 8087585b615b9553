-- What an act does to the digits and to the real settings: it changes one, and the start side of a digit stays after a set.
use mathlib.Core.Path.{◌≡◌, ap, ◌∙◌}
use mathlib.Core.Bool.{Bool, true, false}
use Prim.Native.Nat.{ℕ, ◌^◌, ◌<◌}
use native.Mathlib.Decide.{ℕ_discrete}
use lib.Dec.{eqb, lit<}
use Rattle.ground.specs.Digits.{digit, bit}
use Rattle.ground.proofs.Digits.{digit_lt, put_same, put_other, put_lt}
use Rattle.knowledge_acts.specs.Seven.{start_told}
use Rattle.knowledge_acts.specs.Acts.{set_to}
use Rattle.knowledge_acts.proofs.Seven.{start_set}
use Rattle.knowledge_acts.proofs.Outcomes.{set_here, set_other}
use Rattle.plan.specs.Runs.{change}
use Rattle.plan.proofs.Unknowns.{seven}

two : 0 < 2
two = lit< tt

-- the real settings after a set: "a set changes its setting", and no other; they stay a valuation of n settings
pub change-here : (v i : ℕ) (b : Bool) → bit (change v i b) i ≡ b
unfolding change bit
change-here v i false = ap (λ (x : ℕ). eqb x 1) (put_same two _ i 0 two)
change-here v i true = ap (λ (x : ℕ). eqb x 1) (put_same two _ i 1 (lit< tt))

pub change-other : (v i j : ℕ) (b : Bool) → (j ≡ i → ⊥) → bit (change v i b) j ≡ bit v j
unfolding change bit
change-other v i j false ne = ap (λ (x : ℕ). eqb x 1) (put_other two v i j 0 two ne)
change-other v i j true ne = ap (λ (x : ℕ). eqb x 1) (put_other two v i j 1 (lit< tt) ne)

pub change_lt : (v i n : ℕ) (b : Bool) → v < 2 ^ n → i < n → change v i b < 2 ^ n
unfolding change
change_lt v i n false h l = put_lt two v i n 0 h l two
change_lt v i n true h l = put_lt two v i n 1 h l (lit< tt)

-- the start side stays after a set
pub start_stays : (k i j : ℕ) (b : Bool) → start_told (digit 7 (set_to k i b) j) ≡ start_told (digit 7 k j)
start_stays k i j b = elim (ℕ_discrete j i) [
  | yes e ↦ rw e (ap start_told (set_here k i b) ∙ start_set (digit 7 k i) b (digit_lt seven k i))
  | no ne ↦ ap start_told (set_other k i b j ne)
]
