-- How many settings are unknown after a digit is changed: place by place, since the digit one up is the same place of k / 7.
use mathlib.Core.Path.{◌≡◌, refl}
use mathlib.Core.Bool.{Bool, true, false}
use Prim.Native.Nat.{ℕ, zero, suc, ◌+◌, ◌/◌, ◌%◌, ◌≤◌, ◌<◌}
use native.Mathlib.Nat.{mod-lt, not-suc-le-zero, le_of_suc-le-suc}
use native.Mathlib.Omega.{arith}
use lib.Arith.{digits_div, digits_mod}
use lib.Dec.{lit<}
use Rattle.ground.specs.Digits.{digit, put}
use Rattle.ground.specs.Search.{all}
use Rattle.ground.proofs.Bits.{digit_zero, digit-suc}
use Rattle.ground.proofs.Digits.{digit_lt}
use Rattle.knowledge_acts.specs.Seven.{after_set, after_look}
use Rattle.knowledge_acts.specs.Acts.{set_to, look_at}
use Rattle.knowledge_acts.proofs.Seven.{at-digit, set_lt, look_lt}
use Rattle.plan.specs.Pending.{nought, unknowns}

pub seven : 0 < 7
seven = lit< tt

pub unknowns-put : (n k i d : ℕ) → i < n → d < 7 → unknowns n (put 7 k i d) + nought (digit 7 k i) ≡ unknowns n k + nought d
unfolding unknowns put
unknowns-put zero k i d l h = absurd (not-suc-le-zero l)
unknowns-put (suc n) k zero d l h = rw (digits_mod (k / 7) h, digits_div (k / 7) h, digit_zero) (omega arith)
unknowns-put (suc n) k (suc i) d l h =
    let low = mod-lt k seven in
    rw (digits_mod (put 7 (k / 7) i d) low, digits_div (put 7 (k / 7) i d) low, digit-suc)
    (omega (arith, unknowns-put n (k / 7) i d (le_of_suc-le-suc l) h))

nought_le : (d : ℕ) → nought d ≤ 1
nought_le zero = omega arith
nought_le (suc d) = omega arith

pub unknowns_le : (n k : ℕ) → unknowns n k ≤ n
unfolding unknowns
unknowns_le zero k = omega arith
unknowns_le (suc n) k = omega (arith, nought_le (k % 7), unknowns_le n (k / 7))

-- the digit after a set is not 0; nor is the one after a look
pub set_known : (d : ℕ) (b : Bool) → d < 7 → nought (after_set d b) ≡ 0
unfolding all after_set
set_known d false h = at-digit (λ d. nought (after_set d false)) (λ d. 0) tt d h
set_known d true h = at-digit (λ d. nought (after_set d true)) (λ d. 0) tt d h

pub look_known : (b : Bool) → nought (after_look b) ≡ 0
unfolding after_look
look_known false = refl
look_known true = refl

-- a set makes its setting known, a look at an unknown setting too
pub unknowns-set : (n k i : ℕ) (b : Bool) → i < n → unknowns n (set_to k i b) + nought (digit 7 k i) ≡ unknowns n k
unfolding set_to
unknowns-set n k i b h =
    let d = digit 7 k i in
    let small = digit_lt seven k i in
    omega (arith, unknowns-put n k i (after_set d b) h (set_lt d b small), set_known d b small)

pub unknowns_look : (n k i : ℕ) (b : Bool) → i < n → digit 7 k i ≡ 0 → unknowns n (look_at k i b) + 1 ≡ unknowns n k
unfolding look_at
unknowns_look n k i b h e = omega (arith, rw e at (unknowns-put n k i (after_look b) h (look_lt b)), look_known b)
