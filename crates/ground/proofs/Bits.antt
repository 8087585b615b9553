-- The bits of a number, lowest first: a bit past the first is a bit of the half, so each law goes by recursion on the place.
use mathlib.Core.Path.{◌≡◌, refl, sym, ap, ap₂, ◌∙◌}
use mathlib.Core.Bool.{Bool, true, false, not, ◌&&◌, ◌||◌, beq}
use Prim.Native.Nat.{ℕ, zero, suc, ◌+◌, ◌*◌, ◌/◌, ◌%◌, ◌^◌, ◌<◌}
use native.Mathlib.Nat.{pow-zero, pow-suc, pow-succ', div-one, div-div-eq-div-mul, mod-lt, div-add-mod', div-lt_iff_lt-mul, zero-div, two-pow-succ}
use native.Mathlib.Omega.{arith}
use lib.Dec.{eqb, lit<}
use borrow.Author.Tests.{eq-eqb, ne_eqb}
use lib.Bits.{bit_and, bit_or, bit_xor, and_shr, or_shr, xor_shr, and_mod, or_mod, xor_mod}
use lib.Pow.{shr-shr, field, mod-mod-pow}
use native.Mathlib.Numerals.{add-one}
use Rattle.ground.specs.Digits.{digit, bit}

pub digit_zero : (b k : ℕ) → digit b k 0 ≡ k % b
unfolding digit
digit_zero b k = rw (pow-zero, div-one)

pub digit-suc : (b k i : ℕ) → digit b k (suc i) ≡ digit b (k / b) i
unfolding digit
digit-suc b k i = rw (pow-succ', ← div-div-eq-div-mul k b (b ^ i))

pub bit_zero : (v : ℕ) → bit v 0 ≡ eqb (v % 2) 1
unfolding bit
bit_zero v = ap (λ (x : ℕ). eqb x 1) (digit_zero 2 v)

pub bit-suc : (v i : ℕ) → bit v (suc i) ≡ bit (v / 2) i
unfolding bit
bit-suc v i = ap (λ (x : ℕ). eqb x 1) (digit-suc 2 v i)

-- what holds at 0 and at 1 holds below 2
pub below_2 : (P : ℕ → Type 0) → P 0 → P 1 → (x : ℕ) → x < 2 → P x
below_2 P p q zero h = p
below_2 P p q (suc zero) h = q
below_2 P p q (suc (suc x)) h = absurd (omega arith)

half_bit : (v : ℕ) → v % 2 < 2
half_bit v = mod-lt v (lit< tt)

-- a bit of a bitwise sum, product or difference is that of the two bits
module _ (op : ℕ → ℕ → ℕ) (g : Bool → Bool → Bool)
    (shr : (a b : ℕ) → op a b / 2 ≡ op (a / 2) (b / 2))
    (low_of : (a b : ℕ) → op a b % 2 ≡ op (a % 2) (b % 2))
    (low : (x y : ℕ) → x < 2 → y < 2 → eqb (op x y) 1 ≡ g (eqb x 1) (eqb y 1)) where
  bit_of : (i a b : ℕ) → bit (op a b) i ≡ g (bit a i) (bit b i)
  bit_of zero a b =
      bit_zero (op a b) ∙ ap (λ (x : ℕ). eqb x 1) (low_of a b) ∙ low (a % 2) (b % 2) (half_bit a) (half_bit b)
      ∙ sym (ap₂ g (bit_zero a) (bit_zero b))
  bit_of (suc i) a b =
      bit-suc (op a b) i ∙ ap (λ (x : ℕ). bit x i) (shr a b) ∙ bit_of i (a / 2) (b / 2)
      ∙ sym (ap₂ g (bit-suc a i) (bit-suc b i))

low_and : (x y : ℕ) → x < 2 → y < 2 → eqb (bit_and x y) 1 ≡ eqb x 1 && eqb y 1
low_and x y h k =
    below_2 (λ x. eqb (bit_and x y) 1 ≡ eqb x 1 && eqb y 1)
    (below_2 (λ y. eqb (bit_and 0 y) 1 ≡ eqb 0 1 && eqb y 1) refl refl y k)
    (below_2 (λ y. eqb (bit_and 1 y) 1 ≡ eqb 1 1 && eqb y 1) refl refl y k) x h

low_or : (x y : ℕ) → x < 2 → y < 2 → eqb (bit_or x y) 1 ≡ eqb x 1 || eqb y 1
low_or x y h k =
    below_2 (λ x. eqb (bit_or x y) 1 ≡ eqb x 1 || eqb y 1)
    (below_2 (λ y. eqb (bit_or 0 y) 1 ≡ eqb 0 1 || eqb y 1) refl refl y k)
    (below_2 (λ y. eqb (bit_or 1 y) 1 ≡ eqb 1 1 || eqb y 1) refl refl y k) x h

low_xor : (x y : ℕ) → x < 2 → y < 2 → eqb (bit_xor x y) 1 ≡ not (beq (eqb x 1) (eqb y 1))
low_xor x y h k =
    below_2 (λ x. eqb (bit_xor x y) 1 ≡ not (beq (eqb x 1) (eqb y 1)))
    (below_2 (λ y. eqb (bit_xor 0 y) 1 ≡ not (beq (eqb 0 1) (eqb y 1))) refl refl y k)
    (below_2 (λ y. eqb (bit_xor 1 y) 1 ≡ not (beq (eqb 1 1) (eqb y 1))) refl refl y k) x h

pub bit-bit_and : (a b i : ℕ) → bit (bit_and a b) i ≡ bit a i && bit b i
bit-bit_and a b i = bit_of bit_and ◌&&◌ (λ a b. and_shr a b 1) (λ a b. and_mod a b 1) low_and i a b

pub bit-bit_or : (a b i : ℕ) → bit (bit_or a b) i ≡ bit a i || bit b i
bit-bit_or a b i = bit_of bit_or ◌||◌ (λ a b. or_shr a b 1) (λ a b. or_mod a b 1) low_or i a b

pub bit-bit_xor : (a b i : ℕ) → bit (bit_xor a b) i ≡ not (beq (bit a i) (bit b i))
bit-bit_xor a b i = bit_of bit_xor (λ x y. not (beq x y)) (λ a b. xor_shr a b 1) (λ a b. xor_mod a b 1) low_xor i a b

low_eq : (x y : ℕ) → x < 2 → y < 2 → eqb x 1 ≡ eqb y 1 → x ≡ y
low_eq x y h k =
    below_2 (λ x. eqb x 1 ≡ eqb y 1 → x ≡ y)
    (below_2 (λ y. eqb 0 1 ≡ eqb y 1 → 0 ≡ y) (λ e. refl) (λ e. let z : false ≡ true = e in cc) y k)
    (below_2 (λ y. eqb 1 1 ≡ eqb y 1 → 1 ≡ y) (λ e. let z : true ≡ false = e in cc) (λ e. refl) y k) x h

-- two numbers below 2 ^ k with the same bits are equal
pub same_bits : (k a b : ℕ) → a < 2 ^ k → b < 2 ^ k → ((i : ℕ) → i < k → bit a i ≡ bit b i) → a ≡ b
same_bits zero a b h l f = omega (arith, rw pow-zero at h, rw pow-zero at l)
same_bits (suc k) a b h l f =
    sym (div-add-mod' a 2)
    ∙ ap₂ (λ (q r : ℕ). q * 2 + r)
    (same_bits k (a / 2) (b / 2) (half (rw pow-suc at h)) (half (rw pow-suc at l)) (λ i m. sym (bit-suc a i) ∙ f (suc i) (omega arith) ∙ bit-suc b i))
    (low_eq (a % 2) (b % 2) (half_bit a) (half_bit b) (sym (bit_zero a) ∙ f 0 (omega arith) ∙ bit_zero b))
    ∙ div-add-mod' b 2
  where
    half : {x y : ℕ} → x < y * 2 → x / 2 < y
    half m = (div-lt_iff_lt-mul (lit< tt)).1 m

-- 0 has no bit
pub bit_of_zero : (i : ℕ) → bit 0 i ≡ false
unfolding bit digit
bit_of_zero i = rw zero-div refl

-- a bit of a number shifted down, and of its low end
pub bit_shr : (x a i : ℕ) → bit (x / 2 ^ a) i ≡ bit x (a + i)
unfolding bit digit
bit_shr x a i = ap (λ (y : ℕ). eqb (y % 2) 1) (shr-shr x a i)

pub bit-mod : (m x i : ℕ) → i < m → bit (x % 2 ^ m) i ≡ bit x i
bit-mod zero x i h = absurd (omega arith)
bit-mod (suc m) x zero h =
    bit_zero (x % 2 ^ suc m) ∙ ap (λ (y : ℕ). eqb y 1) (ap (λ (j : ℕ). x % 2 ^ j % 2) (sym (add-one m)) ∙ mod-mod-pow x m 1) ∙ sym (bit_zero x)
bit-mod (suc m) x (suc i) h =
    bit-suc (x % 2 ^ suc m) i
    ∙ ap (λ (y : ℕ). bit y i) (ap (λ (j : ℕ). x % 2 ^ j / 2) (sym (add-one m)) ∙ field x m 1)
    ∙ bit-mod m (x / 2) i (omega arith)
    ∙ sym (bit-suc x i)

-- a bit as code tests it
pub bit-on : (x i : ℕ) → x / 2 ^ i % 2 ≡ 1 → bit x i ≡ true
unfolding bit digit
bit-on x i e = eq-eqb (x / 2 ^ i % 2) 1 e

pub bit_off : (x i : ℕ) → (x / 2 ^ i % 2 ≡ 1 → ⊥) → bit x i ≡ false
unfolding bit digit
bit_off x i e = ne_eqb (x / 2 ^ i % 2) 1 e

-- a number has no bit at its own place
pub below_power : (x : ℕ) → x < 2 ^ x
below_power zero = lit< tt
below_power (suc x) = rw two-pow-succ (omega (arith, below_power x))
