-- A number is below 2^k exactly where its bits from k on are zero, one bit after the other; and a power of two has one bit.
use mathlib.Core.Path.{◌≡◌, refl, sym, ap, ◌∙◌}
use mathlib.Core.Logic.{inl, inr}
use mathlib.Core.Bool.{false}
use Prim.Native.Nat.{ℕ, zero, suc, ◌+◌, ◌*◌, ◌/◌, ◌%◌, ◌^◌, ◌≤◌, ◌<◌}
use native.Mathlib.Nat.{add-zero, add-suc, div-eq_of_lt, div-lt_iff_lt-mul, lt_of_lt_of_le, pow-le-pow_right, pow-suc, mul_comm, one-mul, le_refl}
use native.Mathlib.Decide.{ℕ_discrete}
use native.Mathlib.Omega.{arith}
use lib.Dec.{eqb, lit<}
use lib.Pow.{pow_pos, pow-lt}
use borrow.Author.Tests.{eq-eqb, ne_eqb, eqb-false}
use Rattle.ground.specs.Digits.{digit, bit}
use Rattle.ground.proofs.Bits.{bit_of_zero}
use Rattle.ground.proofs.Bools.{lt_or_ge}
use Rattle.ground.proofs.Digits.{digit_low, digit_top}

-- no bit at or past k
pub high_bit : (x k b : ℕ) → x < 2 ^ k → k ≤ b → bit x b ≡ false
unfolding bit digit
high_bit x k b h le =
    let z : x / 2 ^ b ≡ 0 = div-eq_of_lt (lt_of_lt_of_le h (pow-le-pow_right (lit< tt) le)) in
    rw z

one_bit : (x k : ℕ) → x < 2 ^ suc k → bit x k ≡ false → x < 2 ^ k
unfolding bit digit
one_bit x k h f =
    let below : x / 2 ^ k < 2 = (div-lt_iff_lt-mul (pow_pos k)).1 (rw (mul_comm, ← pow-suc) h) in
    let even : x / 2 ^ k % 2 ≡ 1 → ⊥ = eqb-false _ _ f in
    let none : x / 2 ^ k < 1 = omega arith in
    rw one-mul at ((div-lt_iff_lt-mul (pow_pos k)).0 none)

-- d bits that are zero bring the bound down to k
pub low_bits : (k d x : ℕ) → x < 2 ^ (k + d) → ((b : ℕ) → k ≤ b → b < k + d → bit x b ≡ false) → x < 2 ^ k
low_bits k zero x h f = rw add-zero at h
low_bits k (suc d) x h f =
    low_bits k d x (one_bit x (k + d) (rw add-suc at h) (f (k + d) (omega arith) (omega arith)))
    (λ b l u. f b l (omega arith))

-- what a shift by k leaves tells whether a number is below 2^k
pub shift_none : (x k : ℕ) → x / 2 ^ k ≡ 0 → x < 2 ^ k
shift_none x k e = rw one-mul at ((div-lt_iff_lt-mul {x = x} {y = 1} (pow_pos k)).0 (omega arith))

pub shift_some : (x k : ℕ) → (x / 2 ^ k ≡ 0 → ⊥) → x < 2 ^ k → ⊥
shift_some x k n h = n (div-eq_of_lt h)

-- a power of two has one bit
pub power_bit : (i j : ℕ) → bit (2 ^ i) j ≡ eqb i j
unfolding bit
power_bit i j = elim (lt_or_ge j i) [
  | inl l ↦ alone j ∙ ap (λ (d : ℕ). eqb d 1) (digit_low {b = 2} (lit< tt) i 0 1 j (pow_pos i) l) ∙ bit_of_zero j ∙ sym (ne_eqb i j (λ e. omega arith))
  | inr l ↦ elim (ℕ_discrete i j) [
    | yes e ↦ rw (← e) (alone i ∙ ap (λ (d : ℕ). eqb d 1) (digit_top {b = 2} (lit< tt) i 0 1 (pow_pos i) (lit< tt)) ∙ sym (eq-eqb i i refl))
    | no e ↦ high_bit (2 ^ i) j j (pow-lt {i = i} {j = j} (omega arith)) (le_refl j) ∙ sym (ne_eqb i j e)
  ]
]
  where
    alone : (j : ℕ) → eqb (digit 2 (2 ^ i) j) 1 ≡ eqb (digit 2 (1 * 2 ^ i + 0) j) 1
    alone j = ap (λ (x : ℕ). eqb (digit 2 x j) 1) (omega arith)
