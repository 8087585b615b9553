-- The side that a knowledge number shows, as a number: its digit at a setting is what the knowledge digit tells there. For any way to read a
-- knowledge digit as a side, by recursion on the settings; the present and the start are the two that paper 01 has.
use mathlib.Core.Path.{◌≡◌, sym, ap, ◌∙◌}
use Prim.Native.Nat.{ℕ, zero, suc, ◌+◌, ◌*◌, ◌^◌, ◌≤◌, ◌<◌}
use native.Mathlib.Nat.{pow-succ', lt_of_lt_of_le}
use native.Mathlib.Omega.{arith}
use lib.Arith.{digits_div, digits_mod}
use lib.Dec.{lit<}
use Rattle.ground.specs.Digits.{digit}
use Rattle.ground.proofs.Bits.{digit_zero, digit-suc}
use Rattle.ground.proofs.Digits.{digit_lt, same_digits}
use Rattle.knowledge_acts.specs.Seven.{start_told, now_told}
use Rattle.knowledge_acts.proofs.Seven.{now_lt, start_lt}
use Rattle.knowledge.specs.Number.{sum_of}
use Rattle.knowledge.proofs.Number.{sum_lt, digits_sum}
use Rattle.finder_sides.proofs.CountLaws.{sides-most}
use Rattle.finder_sides.specs.Sides.{now_side_number, start_side_number}

pub three : 0 < 3
three = lit< tt

pub seven : 0 < 7
seven = lit< tt

-- what a knowledge number shows, by a reading g of its digits
abbrev pub seen : (ℕ → ℕ) → ℕ → ℕ → ℕ
seen g n k = sum_of 3 n (λ i. g (digit 7 k i))

module _ (g : ℕ → ℕ) (small : (d : ℕ) → d < 7 → g d < 3) where
  pub seen_lt : (n k : ℕ) → seen g n k < 3 ^ n
  seen_lt n k = sum_lt three (λ i. g (digit 7 k i)) n (λ i h. small (digit 7 k i) (digit_lt seven k i))

  pub seen_digit : (n k i : ℕ) → i < n → digit 3 (seen g n k) i ≡ g (digit 7 k i)
  seen_digit n k i h = digits_sum three (λ i. g (digit 7 k i)) n (λ i h. small (digit 7 k i) (digit_lt seven k i)) i h

  -- one more setting below the others
  pub seen_low : (n r d : ℕ) → d < 7 → seen g (suc n) (r * 7 + d) ≡ seen g n r * 3 + g d
  seen_low n r d l =
      same_digits three (suc n) (seen g (suc n) (r * 7 + d)) (seen g n r * 3 + g d) (seen_lt (suc n) (r * 7 + d))
      (rw pow-succ' (low_lt (seen_lt n r)))
      (λ j m. seen_digit (suc n) (r * 7 + d) j m ∙ at j m)
    where
      low_lt : seen g n r < 3 ^ n → seen g n r * 3 + g d < 3 * 3 ^ n
      low_lt h = omega (arith, small d l)

      at : (j : ℕ) → j < suc n → g (digit 7 (r * 7 + d) j) ≡ digit 3 (seen g n r * 3 + g d) j
      at zero m =
          ap g (digit_zero 7 (r * 7 + d) ∙ digits_mod r l)
          ∙ sym (digit_zero 3 (seen g n r * 3 + g d) ∙ digits_mod (seen g n r) (small d l))
      at (suc j) m =
          ap g (digit-suc 7 (r * 7 + d) j ∙ ap (λ (x : ℕ). digit 7 x j) (digits_div r l))
          ∙ sym (digit-suc 3 (seen g n r * 3 + g d) j
          ∙ ap (λ (x : ℕ). digit 3 x j) (digits_div (seen g n r) (small d l))
          ∙ seen_digit n r j (omega arith))

-- the present side
module _ (n k : ℕ) where
  pub now_number_lt : now_side_number n k < 3 ^ n
  unfolding now_side_number
  now_number_lt = seen_lt now_told (λ d l. now_lt d) n k

  pub below-sides : n ≤ 7 → now_side_number n k < 2187
  below-sides l = lt_of_lt_of_le now_number_lt (sides-most n l)

  pub now_digit : (i : ℕ) → i < n → digit 3 (now_side_number n k) i ≡ now_told (digit 7 k i)
  unfolding now_side_number
  now_digit i h = seen_digit now_told (λ d l. now_lt d) n k i h

  pub now_low : (d : ℕ) → d < 7 → now_side_number (suc n) (k * 7 + d) ≡ now_side_number n k * 3 + now_told d
  unfolding now_side_number
  now_low d l = seen_low now_told (λ d l. now_lt d) n k d l

-- the start side
module _ (n k : ℕ) where
  pub start_number_lt : start_side_number n k < 3 ^ n
  unfolding start_side_number
  start_number_lt = seen_lt start_told (λ d l. start_lt d) n k

  pub below_starts : n ≤ 7 → start_side_number n k < 2187
  below_starts l = lt_of_lt_of_le start_number_lt (sides-most n l)

  pub start_digit : (i : ℕ) → i < n → digit 3 (start_side_number n k) i ≡ start_told (digit 7 k i)
  unfolding start_side_number
  start_digit i h = seen_digit start_told (λ d l. start_lt d) n k i h

  pub start_low : (d : ℕ) → d < 7 → start_side_number (suc n) (k * 7 + d) ≡ start_side_number n k * 3 + start_told d
  unfolding start_side_number
  start_low d l = seen_low start_told (λ d l. start_lt d) n k d l
