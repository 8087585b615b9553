-- States and numbers: what the methods of a state hand back is the state of the number after the act, so that what is said of
-- numbers is said of states.
use mathlib.Core.Path.{◌≡◌, refl, sym, ap, ◌∙◌}
use mathlib.Core.Bool.{Bool}
use mathlib.Core.List.{List}
use Prim.Native.Nat.{ℕ, zero, suc, ◌^◌, ◌<◌}
use native.Mathlib.Omega.{arith}
use lib.Dec.{lit<}
use lib.ListN.{length, get_or, set}
use lib.Seq.{ext_get_or}
use Rattle.ground.specs.Digits.{digit, bit}
use Rattle.ground.proofs.Digits.{digit_lt}
use Rattle.knowledge_acts.specs.Seven.{after_set, after_look}
use Rattle.knowledge_acts.specs.Acts.{set_to, look_at}
use Rattle.knowledge_acts.proofs.Seven.{set_lt, look_lt, first_lt}
use Rattle.knowledge_acts.proofs.Outcomes.{set_below, look_below}
use Rattle.knowledge.specs.Number.{digit_in, number_of, digits_of, first_at, first_digits}
use Rattle.knowledge.proofs.Number.{digit_in_lem, digits_are, digits_long, digits-put, sum-digits, digits_sum}

seven : 0 < 7
seven = lit< tt

-- the number of the state of a number
pub number-state : (k : ℕ) → k < 7 ^ 7 → number_of 7 (digit_in (digits_of k)) ≡ k
number-state k h = rw (digits_are k h) (sum-digits seven 7 k h)

-- the state of the number of a state whose digits are digits
pub state-number : (ds : List ℕ) → length ds ≡ 7 → ((i : ℕ) → i < 7 → get_or ds i 0 < 7) → digits_of (number_of 7 (digit_in ds)) ≡ ds
state-number ds long small =
    ext_get_or 0 (digits_of (number_of 7 (digit_in ds))) ds (digits_long _ ∙ sym long)
    (λ i h. let l : i < 7 = omega (arith, h, digits_long (number_of 7 (digit_in ds))) in
    digit_in_lem (number_of 7 (digit_in ds)) i l ∙ digits_sum seven (digit_in ds) 7 small i l)

-- `after_set` and `after_look` on the state of a number
pub set-state : (k i : ℕ) (b : Bool) → i < 7 → set (digits_of k) i (after_set (digit_in (digits_of k) i) b) ≡ digits_of (set_to k i b)
unfolding set_to
set-state k i b h =
    rw (digit_in_lem k i h) (digits-put k i (after_set (digit 7 k i) b) h (set_lt (digit 7 k i) b (digit_lt seven k i)))

pub look_state : (k i : ℕ) (b : Bool) → i < 7 → set (digits_of k) i (after_look b) ≡ digits_of (look_at k i b)
unfolding look_at
look_state k i b h = digits-put k i (after_look b) h (look_lt b)

-- the state at the start: its digits and its number
module _ (known values : ℕ) where
  pub first_in : (i : ℕ) → i < 7 → digit_in (first_digits known values) i ≡ first_at known values i
  unfolding first_digits
  first_in zero h = refl
  first_in (suc zero) h = refl
  first_in (suc (suc zero)) h = refl
  first_in (suc (suc (suc zero))) h = refl
  first_in (suc (suc (suc (suc zero)))) h = refl
  first_in (suc (suc (suc (suc (suc zero))))) h = refl
  first_in (suc (suc (suc (suc (suc (suc zero)))))) h = refl
  first_in (suc (suc (suc (suc (suc (suc (suc i))))))) h = absurd (omega arith)

  first_small : (i : ℕ) → i < 7 → first_at known values i < 7
  unfolding first_at
  first_small i h = first_lt (bit known i) (bit values i)

  -- `at_start` is the state of the start's number
  pub first-state : first_digits known values ≡ digits_of (number_of 7 (first_at known values))
  unfolding first_digits
  first-state =
      ext_get_or 0 (first_digits known values) (digits_of (number_of 7 (first_at known values))) (sym (digits_long _))
      (λ i h. first_in i h ∙ sym (digit_in_lem (number_of 7 (first_at known values)) i h ∙ digits_sum seven (first_at known values) 7 first_small i h))

-- the number of the state after an act at k, as the type computes it
pub set-number : (k i : ℕ) (b : Bool) {ds es : List ℕ} {r : ℕ} → k < 7 ^ 7 → i < 7 → ds ≡ digits_of k → es ≡ set ds i (after_set (digit_in ds i) b)
    → r ≡ number_of 7 (digit_in es) → r ≡ set_to k i b
set-number k i b {ds} {es} hk hi d e r =
    r ∙ ap (λ (xs : List ℕ). number_of 7 (digit_in xs)) (e ∙ ap (λ (xs : List ℕ). set xs i (after_set (digit_in xs i) b)) d ∙ set-state k i b hi)
    ∙ number-state (set_to k i b) (set_below k i b 7 hk hi)

pub look_number : (k i : ℕ) (b : Bool) {ds es : List ℕ} {r : ℕ} → k < 7 ^ 7 → i < 7 → ds ≡ digits_of k → es ≡ set ds i (after_look b)
    → r ≡ number_of 7 (digit_in es) → r ≡ look_at k i b
look_number k i b {ds} {es} hk hi d e r =
    r ∙ ap (λ (xs : List ℕ). number_of 7 (digit_in xs)) (e ∙ ap (λ (xs : List ℕ). set xs i (after_look b)) d ∙ look_state k i b hi)
    ∙ number-state (look_at k i b) (look_below k i b 7 hk hi)
