-- Reading a side from its lowest setting up: the valuation grows by a bit with each setting that is told.
use mathlib.Core.Path.{◌≡◌, refl, sym, ap, ◌∙◌}
use Prim.Native.Nat.{ℕ, zero, suc, ◌+◌, ◌*◌, ◌-◌, ◌/◌, ◌%◌, ◌^◌, ◌<◌}
use native.Mathlib.Nat.{pow-suc, pow-succ', div-div-eq-div-mul, add_comm, mod-lt}
use native.Mathlib.Numerals.{add-one}
use native.Mathlib.Omega.{arith}
use lib.Arith.{digits_lt}
use lib.Dec.{eqb, lit<}
use Rattle.ground.specs.Digits.{digit, bit}
use Rattle.ground.proofs.Search.{below_suc}
use Rattle.ground.proofs.Digits.{digit_top, digit_low}
use Rattle.knowledge_acts.specs.Seven.{told}

-- the first i settings of the side are told, and this is what they tell
pub record ToldTo (side i rest power value weight : ℕ) : Type 0 where
  pub left : rest ≡ side / 3 ^ i
  pub place : power ≡ 3 ^ i
  pub next : weight ≡ 2 ^ i
  pub small : value < 2 ^ i
  pub tells : (j : ℕ) → j < i → digit 3 side j ≡ told (bit value j)

-- a digit that is not 0 tells the bit that is one less
told-one : (d : ℕ) → d < 3 → (d ≡ 0 → ⊥) → d ≡ told (eqb (d - 1) 1)
told-one zero h ne = absurd (ne refl)
told-one (suc zero) h ne = refl
told-one (suc (suc zero)) h ne = refl
told-one (suc (suc (suc d))) h ne = absurd (omega arith)

module _ {side i rest power value weight : ℕ} (t : ToldTo side i rest power value weight) where
  pub the_digit : rest % 3 ≡ digit 3 side i
  unfolding digit
  the_digit = ap (λ (x : ℕ). x % 3) t.left

  module _ (ne : rest % 3 ≡ 0 → ⊥) where
    bit-small : rest % 3 - 1 < 2
    bit-small = let h : rest % 3 < 3 = mod-lt rest (lit< tt) in omega arith

    as_digits : value + (rest % 3 - 1) * weight ≡ (rest % 3 - 1) * 2 ^ i + value
    as_digits = ap (λ (x : ℕ). value + (rest % 3 - 1) * x) t.next ∙ add_comm value ((rest % 3 - 1) * 2 ^ i)

    more-tells : (j : ℕ) → j < suc i → digit 3 side j ≡ told (bit (value + (rest % 3 - 1) * weight) j)
    unfolding bit
    more-tells j h =
        rw as_digits
        (below_suc j i h
        (λ e. rw e (sym the_digit ∙ told-one (rest % 3) (mod-lt rest (lit< tt)) ne
        ∙ ap (λ (x : ℕ). told (eqb x 1)) (sym (digit_top (lit< tt) i value (rest % 3 - 1) t.small bit-small))))
        (λ l. t.tells j l ∙ ap (λ (x : ℕ). told (eqb x 1)) (sym (digit_low (lit< tt) i value (rest % 3 - 1) j t.small l))))

    pub one-more-told : ToldTo side (i + 1) (rest / 3) (power * 3) (value + (rest % 3 - 1) * weight) (weight * 2)
    one-more-told = record {
      left = ap (λ (x : ℕ). x / 3) t.left ∙ div-div-eq-div-mul side (3 ^ i) 3 ∙ ap (λ (x : ℕ). side / x) (sym (rw (add-one i) (pow-suc 3 i)));
      place = ap (λ (x : ℕ). x * 3) t.place ∙ sym (rw (add-one i) (pow-suc 3 i));
      next = ap (λ (x : ℕ). x * 2) t.next ∙ sym (rw (add-one i) (pow-suc 2 i));
      small = rw (as_digits, add-one i, pow-succ') (digits_lt bit-small t.small);
      tells = λ j h. more-tells j (rw (add-one i) at h);
    }
