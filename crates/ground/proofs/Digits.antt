-- The laws of a number's digits, for any base: what a changed digit shows, how large the number stays, and that the digits
-- tell the number. Each goes by the digit's place, since the place one up is the same place of the number divided by the base.
-- Assumes nothing.
use mathlib.Core.Path.{◌≡◌, refl, sym, ◌∙◌, ap}
use Prim.Native.Nat.{ℕ, zero, suc, ◌+◌, ◌*◌, ◌/◌, ◌%◌, ◌^◌, ◌<◌}
use native.Mathlib.Nat.{pow-zero, pow-suc, mod-lt, div-add-mod', div-lt_iff_lt-mul, div-eq_of_lt, zero-mod, mul-one, mul_assoc, add-mul}
use native.Mathlib.Nat.{le_of_suc-le-suc, not-suc-le-zero, one-le-pow, pow-succ', mod-eq_of_lt}
use native.Mathlib.Omega.{arith}
use lib.Arith.{digits_lt, digits_div, digits_mod, mod-mul}
use Rattle.ground.specs.Digits.{digit, put}
use Rattle.ground.proofs.Bits.{digit_zero, digit-suc}

-- the laws that ask for a base above 0
module _ {b : ℕ} (pos : 0 < b) where
  pub digit_lt : (k i : ℕ) → digit b k i < b
  unfolding digit
  digit_lt k i = mod-lt (k / b ^ i) pos

  -- no digit stands at or past the number's length
  pub digit-above : (k i : ℕ) → k < b ^ i → digit b k i ≡ 0
  unfolding digit
  digit-above k i h = ap (λ (x : ℕ). x % b) (div-eq_of_lt h) ∙ zero-mod b

  -- the lowest n + 1 digits: the lowest n of the number divided by the base, and the lowest digit
  pub low-mod : (n k : ℕ) → k % b ^ suc n ≡ k / b % b ^ n * b + k % b
  low-mod n k = rw pow-suc (mod-mul k (one-le-pow n b pos) pos)

  -- the lowest n + 1 digits: the digit at place n, and the lowest n
  pub high-mod : (n k : ℕ) → k % b ^ suc n ≡ digit b k n * b ^ n + k % b ^ n
  unfolding digit
  high-mod n k = rw pow-succ' (mod-mul k pos (one-le-pow n b pos))

  pub put_same : (k i d : ℕ) → d < b → digit b (put b k i d) i ≡ d
  unfolding put
  put_same k zero d h = digit_zero b (k / b * b + d) ∙ digits_mod (k / b) h
  put_same k (suc i) d h =
      digit-suc b (put b (k / b) i d * b + k % b) i
      ∙ ap (λ (x : ℕ). digit b x i) (digits_div (put b (k / b) i d) (mod-lt k pos))
      ∙ put_same (k / b) i d h

  pub put_other : (k i j d : ℕ) → d < b → (j ≡ i → ⊥) → digit b (put b k i d) j ≡ digit b k j
  unfolding put
  put_other k zero zero d h ne = absurd (ne refl)
  put_other k zero (suc j) d h ne =
      digit-suc b (k / b * b + d) j ∙ ap (λ (x : ℕ). digit b x j) (digits_div (k / b) h) ∙ sym (digit-suc b k j)
  put_other k (suc i) zero d h ne =
      digit_zero b (put b (k / b) i d * b + k % b) ∙ digits_mod (put b (k / b) i d) (mod-lt k pos) ∙ sym (digit_zero b k)
  put_other k (suc i) (suc j) d h ne =
      digit-suc b (put b (k / b) i d * b + k % b) j
      ∙ ap (λ (x : ℕ). digit b x j) (digits_div (put b (k / b) i d) (mod-lt k pos))
      ∙ put_other (k / b) i j d h (λ e. ne (ap suc e))
      ∙ sym (digit-suc b k j)

  -- a number of n digits divided by the base has one digit less
  pub shorter : (k n : ℕ) → k < b ^ suc n → k / b < b ^ n
  shorter k n h = (div-lt_iff_lt-mul pos).1 (rw pow-suc at h)

  pub put_lt : (k i n d : ℕ) → k < b ^ n → i < n → d < b → put b k i d < b ^ n
  unfolding put
  put_lt k i zero d h lt hd = absurd (not-suc-le-zero lt)
  put_lt k zero (suc n) d h lt hd = rw pow-suc (digits_lt (shorter k n h) hd)
  put_lt k (suc i) (suc n) d h lt hd =
      rw pow-suc (digits_lt (put_lt (k / b) i n d (shorter k n h) (le_of_suc-le-suc lt) hd) (mod-lt k pos))

  pub put-put : (k i d e : ℕ) → d < b → put b (put b k i d) i e ≡ put b k i e
  unfolding put
  put-put k zero d e h = ap (λ (x : ℕ). x * b + e) (digits_div (k / b) h)
  put-put k (suc i) d e h =
      let low = mod-lt k pos in
      let up = digits_div (put b (k / b) i d) low in
      let down = digits_mod (put b (k / b) i d) low in
      rw (up, down, put-put (k / b) i d e h)

  pub put-digit : (k i : ℕ) → put b k i (digit b k i) ≡ k
  unfolding put
  put-digit k zero = rw digit_zero (div-add-mod' k b)
  put-digit k (suc i) = rw (digit-suc, put-digit (k / b) i) (div-add-mod' k b)

  -- the number moves by the difference of the two digits, times the place's power
  pub put-sum : (k i d : ℕ) → put b k i d + digit b k i * b ^ i ≡ k + d * b ^ i
  unfolding put
  put-sum k zero d = simp (digit_zero, pow-zero, mul-one) (omega (arith, div-add-mod' k b))
  put-sum k (suc i) d =
      let up = ap (λ (x : ℕ). x * b) (put-sum (k / b) i d) in
      simp (digit-suc, pow-suc, ← mul_assoc) (omega (arith, div-add-mod' k b, simp add-mul at up))

  -- the digits below place n are those of the number modulo b ^ n
  pub digit-mod : (n k i : ℕ) → i < n → digit b (k % b ^ n) i ≡ digit b k i
  digit-mod zero k i h = absurd (not-suc-le-zero h)
  digit-mod (suc n) k zero h = rw (low-mod n k, digit_zero, digit_zero) (digits_mod (k / b % b ^ n) (mod-lt k pos))
  digit-mod (suc n) k (suc i) h =
      rw (low-mod n k, digit-suc, digit-suc, digits_div (k / b % b ^ n) (mod-lt k pos))
      (digit-mod n (k / b) i (le_of_suc-le-suc h))

  -- a digit put in front of a number of n digits: the digit at place n, and those below it
  pub digit_top : (n x y : ℕ) → x < b ^ n → y < b → digit b (y * b ^ n + x) n ≡ y
  unfolding digit
  digit_top n x y h l = ap (λ (z : ℕ). z % b) (digits_div y h) ∙ mod-eq_of_lt l

  pub digit_low : (n x y i : ℕ) → x < b ^ n → i < n → digit b (y * b ^ n + x) i ≡ digit b x i
  digit_low n x y i h l =
      sym (digit-mod n (y * b ^ n + x) i l) ∙ ap (λ (z : ℕ). digit b z i) (digits_mod y h)

  -- numbers of n digits with the same digits are the same
  pub same_digits : (n k l : ℕ) → k < b ^ n → l < b ^ n → ((i : ℕ) → i < n → digit b k i ≡ digit b l i) → k ≡ l
  same_digits zero k l hk hl same = omega (arith, rw pow-zero at hk, rw pow-zero at hl)
  same_digits (suc n) k l hk hl same =
      let low : k % b ≡ l % b = sym (digit_zero b k) ∙ same 0 (omega arith) ∙ digit_zero b l in
      let high : k / b ≡ l / b =
      same_digits n (k / b) (l / b) (shorter k n hk) (shorter l n hl)
      (λ i h. sym (digit-suc b k i) ∙ same (suc i) (omega arith) ∙ digit-suc b l i)
      in
      sym (div-add-mod' k b) ∙ ap (λ (x : ℕ). x * b + k % b) high ∙ ap (λ (x : ℕ). l / b * b + x) low ∙ div-add-mod' l b
