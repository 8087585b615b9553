-- The masks of a side, setting by setting: each turn gives both masks one bit more, which the bits below do not see.
use mathlib.Core.Path.{◌≡◌, refl}
use mathlib.Core.Bool.{Bool, true, false, cond}
use Prim.Native.Nat.{ℕ, zero, suc, ◌+◌, ◌*◌, ◌%◌, ◌^◌, ◌<◌}
use native.Mathlib.Nat.{pow-succ', two-pow-succ}
use native.Mathlib.Numerals.{add-one}
use native.Mathlib.Omega.{arith}
use lib.Arith.{digits_lt}
use lib.Dec.{T, eqb, eqb→eq, lit<}
use lib.Pow.{pow_mono}
use Rattle.ground.specs.Digits.{bit}
use Rattle.ground.proofs.Digits.{digit_top, digit_low}
use Rattle.ground.proofs.Search.{below_suc}
use Rattle.knowledge_acts.specs.Seven.{unknown, told}
use Rattle.knowledge_acts.proofs.Seven.{now_lt, start_lt}
use Rattle.knowledge_judging.specs.Sides.{told_of}
use Rattle.knowledge_judging.specs.declared.valuation.Side.{Side}
use Rattle.knowledge_judging.specs.declared.valuation.Side.TheVariants.{Start, Now}

-- a mask with one bit more
module _ (x i : ℕ) (b : Bool) (small : x < 2 ^ i) where
  as_digits : x + cond b (2 ^ i) 0 ≡ cond b 1 0 * 2 ^ i + x
  as_digits = go b
    where
      go : (b : Bool) → x + cond b (2 ^ i) 0 ≡ cond b 1 0 * 2 ^ i + x
      go true = omega arith
      go false = omega arith

  one-small : cond b 1 0 < 2
  one-small = go b
    where
      go : (b : Bool) → cond b 1 0 < 2
      go true = lit< tt
      go false = lit< tt

  pub more-small : x + cond b (2 ^ i) 0 < 2 ^ suc i
  more-small = rw (as_digits, pow-succ') (digits_lt one-small small)

  pub more-here : bit (x + cond b (2 ^ i) 0) i ≡ b
  unfolding bit
  more-here = rw (as_digits, digit_top {b = 2} (lit< tt) i x (cond b 1 0) small one-small) (go b)
    where
      go : (b : Bool) → eqb (cond b 1 0) 1 ≡ b
      go true = refl
      go false = refl

  pub more-below : (j : ℕ) → j < i → bit (x + cond b (2 ^ i) 0) j ≡ bit x j
  unfolding bit
  more-below j l = rw (as_digits, digit_low {b = 2} (lit< tt) i x (cond b 1 0) j small l)

-- a side tells one of three things, which the two tests tell apart
told_by : (s : ℕ) → s < 3 → s ≡ cond (eqb s 0) unknown (told (eqb s 2))
told_by zero l = refl
told_by (suc zero) l = refl
told_by (suc (suc zero)) l = refl
told_by (suc (suc (suc s))) l = absurd (omega arith)

unknown_false : (s : ℕ) → T (eqb s 0) → eqb s 2 ≡ false
unknown_false s t = rw (eqb→eq s 0 t)

-- the first i settings are in the masks
pub record MasksTo (side : ℕ → ℕ) (i unknowns values : ℕ) : Type 0 where
  pub unknowns-small : unknowns < 2 ^ i
  pub values_small : values < 2 ^ i
  pub tells : (j : ℕ) → j < i → side j ≡ cond (bit unknowns j) unknown (told (bit values j))
  pub clear : (j : ℕ) → j < i → T (bit unknowns j) → bit values j ≡ false

module _ {side : ℕ → ℕ} {i unknowns values : ℕ} (m : MasksTo side i unknowns values) (three : side i < 3) where
  abbrev unknowns' : ℕ
  unknowns' = unknowns + cond (eqb (side i) 0) (2 ^ i) 0

  abbrev values' : ℕ
  values' = values + cond (eqb (side i) 2) (2 ^ i) 0

  at-unknown : (j : ℕ) → j < i → bit unknowns' j ≡ bit unknowns j
  at-unknown = more-below unknowns i (eqb (side i) 0) m.unknowns-small

  at_value : (j : ℕ) → j < i → bit values' j ≡ bit values j
  at_value = more-below values i (eqb (side i) 2) m.values_small

  here-unknown : bit unknowns' i ≡ eqb (side i) 0
  here-unknown = more-here unknowns i (eqb (side i) 0) m.unknowns-small

  here-value : bit values' i ≡ eqb (side i) 2
  here-value = more-here values i (eqb (side i) 2) m.values_small

  -- a turn
  pub one_mask_more : MasksTo side (suc i) unknowns' values'
  one_mask_more = record {
    unknowns-small = more-small unknowns i (eqb (side i) 0) m.unknowns-small;
    values_small = more-small values i (eqb (side i) 2) m.values_small;
    tells = λ j l. below_suc j i l
        (λ e. rw (e, here-unknown, here-value) (told_by (side i) three))
        (λ k. rw (at-unknown j k, at_value j k) (m.tells j k));
    clear = λ j l t. below_suc j i l
        (λ e. rw (e, here-value) (unknown_false (side i) (rw (e, here-unknown) at t)))
        (λ k. rw (at_value j k) (m.clear j k (rw (at-unknown j k) at t)));
  }

  -- as the code has it
  pub masks_turn : {seen power u w : ℕ} → seen ≡ side i → power ≡ 2 ^ i → u ≡ cond (eqb seen 0) power 0 → w ≡ cond (eqb seen 2) power 0
      → MasksTo side (i + 1) (unknowns + u) (values + w)
  masks_turn e p f g = rw (add-one i, f, g, e, p) one_mask_more

-- the bit of one of seven settings is a byte
pub one_bit : {i : ℕ} → i < 7 → 1 * 2 ^ i % 256 ≡ 2 ^ i
one_bit {i} few = omega (arith, two-pow-succ i, pow_mono {i = suc i} {j = 7} few)

-- what either side tells is one of three
pub side_three : (side : Side) (d : ℕ → ℕ) (i : ℕ) → told_of side d i < 3
side_three Start d i = start_lt (d i)
side_three Now d i = now_lt (d i)
