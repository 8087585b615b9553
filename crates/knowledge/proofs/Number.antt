-- A knowledge number and its digits: each gives the other back, and a changed digit of the one is a changed digit of the other.
use mathlib.Core.Path.{◌≡◌, refl, sym, ap, ◌∙◌, fun_ext}
use mathlib.Core.Logic.{inl, inr}
use Prim.Native.Nat.{ℕ, zero, suc, ◌*◌, ◌%◌, ◌^◌, ◌≤◌, ◌<◌}
use native.Mathlib.Nat.{pow-zero, pow-succ', mod-one, mod-eq_of_lt, add_comm, add-zero, zero-mul, pow-le-pow_right, lt_of_lt_of_le}
use native.Mathlib.Decide.{ℕ_discrete}
use native.Mathlib.Omega.{arith}
use lib.Arith.{digits_lt}
use lib.Dec.{lit<}
use lib.ListN.{length, get_or, set, length-set, get_or-eq_default}
use lib.Seq.{ext_get_or, get_or-set_same, get_or-set_other}
use Rattle.ground.specs.Digits.{digit, put}
use Rattle.ground.proofs.Bools.{lt_or_ge}
use Rattle.ground.proofs.Search.{below_suc}
use Rattle.ground.proofs.Digits.{digit-above, high-mod, digit_top, digit_low, put_same, put_other}
use Rattle.knowledge.specs.Number.{digit_in, sum_of, digits_of}

seven : 0 < 7
seven = lit< tt

-- each of the seven digits of a number, in the list of them
pub digit_in_lem : (k i : ℕ) → i < 7 → digit_in (digits_of k) i ≡ digit 7 k i
unfolding digits_of
digit_in_lem k zero h = refl
digit_in_lem k (suc zero) h = refl
digit_in_lem k (suc (suc zero)) h = refl
digit_in_lem k (suc (suc (suc zero))) h = refl
digit_in_lem k (suc (suc (suc (suc zero)))) h = refl
digit_in_lem k (suc (suc (suc (suc (suc zero))))) h = refl
digit_in_lem k (suc (suc (suc (suc (suc (suc zero)))))) h = refl
digit_in_lem k (suc (suc (suc (suc (suc (suc (suc i))))))) h = absurd (omega arith)

-- a knowledge number has no digits but those seven, so what is said of the list's digits is said of the number's
pub digits_are : (k : ℕ) → k < 7 ^ 7 → digit_in (digits_of k) ≡ digit 7 k
unfolding digits_of
digits_are k h = fun_ext (λ i. elim (lt_or_ge i 7) [
  | inl l ↦ digit_in_lem k i l
  | inr l ↦ get_or-eq_default (digits_of k) 0 l
      ∙ sym (digit-above seven k i (lt_of_lt_of_le h (pow-le-pow_right seven l)))
])

-- the sum of a number's digits, and the digits of a sum, in any base
module _ {b : ℕ} (pos : 0 < b) where
  pub sum-mod : (n k : ℕ) → sum_of b n (digit b k) ≡ k % b ^ n
  unfolding sum_of
  sum-mod zero k = sym (rw pow-zero (mod-one k))
  sum-mod (suc n) k = rw (sum-mod n k, high-mod pos n k) (add_comm (k % b ^ n) (digit b k n * b ^ n))

  pub sum-digits : (n k : ℕ) → k < b ^ n → sum_of b n (digit b k) ≡ k
  sum-digits n k h = sum-mod n k ∙ mod-eq_of_lt h

  module _ (d : ℕ → ℕ) where
    pub sum_lt : (n : ℕ) → ((i : ℕ) → i < n → d i < b) → sum_of b n d < b ^ n
    unfolding sum_of
    sum_lt zero small = rw pow-zero (lit< tt)
    sum_lt (suc n) small =
        rw (pow-succ', add_comm (sum_of b n d) (d n * b ^ n))
        (digits_lt (small n (omega arith)) (sum_lt n (λ i h. small i (omega arith))))

    pub digits_sum : (n : ℕ) → ((i : ℕ) → i < n → d i < b) → (i : ℕ) → i < n → digit b (sum_of b n d) i ≡ d i
    unfolding sum_of
    digits_sum zero small i h = absurd (omega arith)
    digits_sum (suc n) small i h =
        let low = sum_lt n (λ j l. small j (omega arith)) in
        rw (add_comm (sum_of b n d) (d n * b ^ n))
        (below_suc i n h
        (λ e. rw e (digit_top pos n (sum_of b n d) (d n) low (small n (omega arith))))
        (λ l. digit_low pos n (sum_of b n d) (d n) i low l ∙ digits_sum n (λ j m. small j (omega arith)) i l))

-- digits that are 0 do not count
pub sum-short : (b : ℕ) (d : ℕ → ℕ) (m n : ℕ) → n ≤ m → ((i : ℕ) → n ≤ i → i < m → d i ≡ 0) → sum_of b m d ≡ sum_of b n d
unfolding sum_of
sum-short b d zero n h none = let e : 0 ≡ n = omega arith in ap (λ (x : ℕ). sum_of b x d) e
sum-short b d (suc m) n h none = elim (lt_or_ge m n) [
  | inl l ↦ (let e : suc m ≡ n = omega arith in ap (λ (x : ℕ). sum_of b x d) e)
  | inr l ↦ rw (none m l (omega arith), zero-mul, add-zero) (sum-short b d m n l (λ i a c. none i a (omega arith)))
]

-- only the digits below n count
pub sum_ext : (b n : ℕ) (d e : ℕ → ℕ) → ((i : ℕ) → i < n → d i ≡ e i) → sum_of b n d ≡ sum_of b n e
unfolding sum_of
sum_ext b zero d e same = refl
sum_ext b (suc n) d e same = rw (sum_ext b n d e (λ i h. same i (omega arith)), same n (omega arith))

-- seven digits, whatever the number
pub digits_long : (k : ℕ) → length (digits_of k) ≡ 7
unfolding digits_of
digits_long k = refl

-- a changed digit, in the list and in the number
pub digits-put : (k i e : ℕ) → i < 7 → e < 7 → set (digits_of k) i e ≡ digits_of (put 7 k i e)
digits-put k i e h l =
    ext_get_or 0 (set (digits_of k) i e) (digits_of (put 7 k i e)) (length-set (digits_of k) i e ∙ digits_long k ∙ sym (digits_long _))
    (λ j m. at j (omega (arith, m, length-set (digits_of k) i e, digits_long k)))
  where
    at : (j : ℕ) → j < 7 → get_or (set (digits_of k) i e) j 0 ≡ get_or (digits_of (put 7 k i e)) j 0
    at j m = elim (ℕ_discrete j i) [
      | yes same ↦ rw same
          (get_or-set_same (digits_of k) i e 0 (omega (arith, digits_long k))
          ∙ sym (digit_in_lem (put 7 k i e) i h ∙ put_same seven k i e l))
      | no other ↦ get_or-set_other (digits_of k) i j e 0 other
          ∙ digit_in_lem k j m
          ∙ sym (digit_in_lem (put 7 k i e) j m ∙ put_other seven k i j e l other)
    ]
