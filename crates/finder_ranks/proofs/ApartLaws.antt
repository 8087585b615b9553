-- Running numbers in loops over the settings: the powers of 7 and of 3, the side so far, and a state taken apart so far.
use mathlib.Core.Path.{◌≡◌, refl, sym, ap, ◌∙◌}
use mathlib.Core.List.{List}
use Prim.Native.Nat.{ℕ, ◌+◌, ◌*◌, ◌/◌, ◌%◌, ◌^◌, ◌<◌}
use native.Mathlib.Nat.{pow-suc, pow-zero}
use native.Mathlib.Numerals.{add-one}
use native.Mathlib.Decide.{ℕ_discrete}
use native.Mathlib.Omega.{arith}
use lib.ListN.{length, set, length-set}
use lib.Seq.{get_or-set_same, get_or-set_other}
use Rattle.ground.specs.Digits.{digit}
use Rattle.ground.specs.Search.{all}
use Rattle.knowledge_acts.specs.Seven.{now_told, start_told}
use Rattle.knowledge_acts.proofs.Seven.{at-digit}
use Rattle.knowledge.specs.Number.{digit_in, digits_of, sum_of}
use Rattle.knowledge.proofs.Number.{digit_in_lem}
use Rattle.finder_sides.specs.Sides.{now_side_number, start_side_number}
use Rattle.finder_ranks.specs.Apart.{Apart}
use Rattle.finder_sides.proofs.Shown.{seen}

pub power_none : (b : ℕ) → 1 ≡ b ^ 0
power_none b = sym (pow-zero b)

pub power_up : (b i p : ℕ) → p ≡ b ^ i → p * b ≡ b ^ (i + 1)
power_up b i p e = rw (add-one, pow-suc, e)

-- what a digit tells, packed into one number
pub packed_now : (d : ℕ) → d < 7 → 0x2121210 / 2 ^ (4 * d) % 16 ≡ now_told d
unfolding all now_told
packed_now d l = at-digit (λ d. 0x2121210 / 2 ^ (4 * d) % 16) now_told tt d l

pub packed_start : (d : ℕ) → d < 7 → 0x2211000 / 2 ^ (4 * d) % 16 ≡ start_told d
unfolding all start_told
packed_start d l = at-digit (λ d. 0x2211000 / 2 ^ (4 * d) % 16) start_told tt d l

-- one setting more, whatever is read of a digit
seen_up : (g : ℕ → ℕ) (k i : ℕ) {side three d told : ℕ} → side ≡ seen g i k → three ≡ 3 ^ i → d ≡ digit 7 k i → told ≡ g d
    → side + told * three ≡ seen g (i + 1) k
unfolding sum_of
seen_up g k i s t e f = rw (add-one, s, t, f, e)

-- the digit that a state of the number k hands out
pub digit-here : (k i : ℕ) {d : ℕ} {digits : List ℕ} → digits ≡ digits_of k → i < 7 → d ≡ digit_in digits i → d ≡ digit 7 k i
digit-here k i e l h = h ∙ ap (λ ds. digit_in ds i) e ∙ digit_in_lem k i l

-- a state taken apart, setting by setting
pub apart_none : (k : ℕ) (ds : List ℕ) → length ds ≡ 7 → Apart 0 k 0 0 ds
unfolding now_side_number start_side_number sum_of
apart_none k ds e = record { long = e; each = λ i l. absurd (omega arith); now_is = refl; start_is = refl }

module _ {k i now start three d : ℕ} {ds : List ℕ} (a : Apart i k now start ds) (t : three ≡ 3 ^ i) (e : d ≡ digit 7 k i) where
  pub now_up : (told : ℕ) → told ≡ now_told d → now + told * three ≡ now_side_number (i + 1) k
  unfolding now_side_number
  now_up told f = seen_up now_told k i a.now_is t e f

  pub start_up : (told : ℕ) → told ≡ start_told d → start + told * three ≡ start_side_number (i + 1) k
  unfolding start_side_number
  start_up told f = seen_up start_told k i a.start_is t e f

  pub apart_more : {x y : ℕ} → i < 7 → x ≡ now_told d → y ≡ start_told d → Apart (i + 1) k (now + x * three) (start + y * three) (set ds i d)
  apart_more {x} {y} l f g = record {
    long = length-set ds i d ∙ a.long;
    each = λ j m. elim (ℕ_discrete j i) [
      | yes q ↦ rw q (get_or-set_same ds i d 0 (omega (arith, l, a.long)) ∙ e)
      | no q ↦ get_or-set_other ds i j d 0 q ∙ a.each j (omega arith)
    ];
    now_is = now_up x f;
    start_is = start_up y g;
  }
