-- The words bit by bit: the constant ones and the masks by one computed test each, the others by the laws of bits.
use mathlib.Core.Path.{◌≡◌, refl, sym, ap, ap₂, ◌∙◌, subst}
use mathlib.Core.Logic.{inl, inr}
use mathlib.Core.List.{List, [], ◌∷◌}
use mathlib.Core.Bool.{Bool, true, false, not, ◌&&◌, ◌||◌, cond, beq}
use Prim.Native.Nat.{ℕ, ◌+◌, ◌*◌, ◌-◌, ◌/◌, ◌%◌, ◌^◌, ◌≤◌, ◌<◌}
use native.Mathlib.Nat.{mod-lt, div-eq_of_lt}
use native.Mathlib.Omega.{arith}
use lib.Dec.{T, ltb, lit<}
use lib.Bits.{bit_and, bit_or, bit_xor}
use lib.ListN.{length, get_or, set, get_or-eq_default}
use lib.Seq.{get_or-set_same, get_or-set_other}
use lib.Pow.{pow_mono}
use borrow.Author.Tests.{lt-ltb, le-ltb}
use Rattle.ground.specs.Digits.{bit, digit}
use Rattle.ground.specs.Search.{all}
use Rattle.ground.specs.Table.{truth, Within, TableOf}
use Rattle.ground.proofs.Bools.{beq→eq, lt_or_ge, and_true, and_false}
use Rattle.ground.proofs.Search.{all-at}
use Rattle.ground.proofs.Bits.{bit-bit_and, bit-bit_or, bit-bit_xor, bit_shr, bit-mod, bit_of_zero, bit_off}
use Rattle.formula_table.specs.Two.{has, WordsOf, words_byte, BytesOf}
use Rattle.formula_table.specs.declared.Truths.{Truths}

abbrev words : ℕ → ℕ → Truths
words low high = record { low = low; high = high }

abbrev every : ℕ
every = 0xffff_ffff_ffff_ffff

-- a test over all 128 valuations is what `WordsOf` says
by_test : (w : Truths) (f : ℕ → Bool) → T (all 128 (λ v. beq (has w v) (f v))) → WordsOf w f
unfolding WordsOf
by_test w f t v h = beq→eq (has w v) (f v) (all-at 128 (λ v. beq (has w v) (f v)) t v h)

true_holds : WordsOf (words every every) (λ v. true)
unfolding all has bit digit
true_holds = by_test (words every every) (λ v. true) tt

false_holds : WordsOf (words 0 0) (λ v. false)
unfolding all has bit digit
false_holds = by_test (words 0 0) (λ v. false) tt

-- the constant that a test found
pub constant_true : (b : Bool) → b ≡ true → WordsOf (words every every) (λ v. b)
constant_true b e = subst (λ (b : Bool). WordsOf (words every every) (λ v. b)) (sym e) true_holds

pub constant_false : (b : Bool) → b ≡ false → WordsOf (words 0 0) (λ v. b)
constant_false b e = subst (λ (b : Bool). WordsOf (words 0 0) (λ v. b)) (sym e) false_holds

-- ---- letters

unfoldable pub letters : List ℕ
letters = 0xaaaa_aaaa_aaaa_aaaa ∷ 0xcccc_cccc_cccc_cccc ∷ 0xf0f0_f0f0_f0f0_f0f0 ∷ 0xff00_ff00_ff00_ff00 ∷ 0xffff_0000_ffff_0000 ∷ 0xffff_ffff_0000_0000 ∷ []

-- bit v of letter i's word is bit i of v, in both halves
letter_test : ℕ → Bool
letter_test i = all 128 (λ v. beq (has (words (get_or letters i 0) (get_or letters i 0)) v) (bit v i))

pub letter-holds : (i : ℕ) → i < 6 → WordsOf (words (get_or letters i 0) (get_or letters i 0)) (λ v. bit v i)
unfolding letters all has bit digit letter_test
letter-holds i h = by_test (words (get_or letters i 0) (get_or letters i 0)) (λ v. bit v i) (all-at 6 letter_test tt i h)

pub last_letter-holds : (i : ℕ) → i ≡ 6 → WordsOf (words 0 every) (λ v. bit v i)
unfolding all has bit digit
last_letter-holds i e = subst (λ (i : ℕ). WordsOf (words 0 every) (λ v. bit v i)) (sym e) (by_test (words 0 every) (λ v. bit v 6) tt)

-- a valuation of seven settings has no bit past 6
pub past-letter-holds : (i : ℕ) → 6 < i → WordsOf (words 0 0) (λ v. bit v i)
unfolding WordsOf
past-letter-holds i h v l = false_holds v l ∙ sym (bit_off v i (λ e. omega (arith, e, div-eq_of_lt (small v i l h))))
  where
    small : (v i : ℕ) → v < 128 → 6 < i → v < 2 ^ i
    small v i l h = omega (arith, pow_mono {i = 7} {j = i} h)

-- ---- the operations

picked : (g : Bool → Bool → Bool) (b x y x' y' : Bool) → cond b (g x y) (g x' y') ≡ g (cond b x x') (cond b y y')
picked g true x y x' y' = refl
picked g false x y x' y' = refl

-- a law of bits, at every valuation
module _ (op : ℕ → ℕ → ℕ) (g : Bool → Bool → Bool) (law : (a b i : ℕ) → bit (op a b) i ≡ g (bit a i) (bit b i)) where
  both_words : (a b : Truths) → WordsOf (words (op a.low b.low) (op a.high b.high)) (λ v. g (has a v) (has b v))
  unfolding WordsOf has
  both_words a b v h =
      ap₂ (cond (ltb v 64)) (law a.low b.low v) (law a.high b.high (v - 64))
      ∙ picked g (ltb v 64) (bit a.low v) (bit b.low v) (bit a.high (v - 64)) (bit b.high (v - 64))

pub and_holds : (a b : Truths) → WordsOf (words (bit_and a.low b.low) (bit_and a.high b.high)) (λ v. has a v && has b v)
and_holds a b = both_words bit_and ◌&&◌ bit-bit_and a b

pub or_holds : (a b : Truths) → WordsOf (words (bit_or a.low b.low) (bit_or a.high b.high)) (λ v. has a v || has b v)
or_holds a b = both_words bit_or ◌||◌ bit-bit_or a b

unlike : (x y : Bool) → y ≡ true → not (beq x y) ≡ not x
unlike true y e = rw e
unlike false y e = rw e

pub not-holds : (a : Truths) → WordsOf (words (bit_xor a.low every) (bit_xor a.high every)) (λ v. not (has a v))
unfolding WordsOf
not-holds a v h =
    both_words bit_xor (λ x y. not (beq x y)) bit-bit_xor a (words every every) v h ∙ unlike (has a v) (has (words every every) v) (true_holds v h)

-- ---- no bit past 2^n

unfoldable pub masks : List ℕ
masks = 0x1 ∷ 0x3 ∷ 0xf ∷ 0xff ∷ 0xffff ∷ 0xffff_ffff ∷ []

abbrev pub below : ℕ → ℕ → Bool
below n v = ltb v (2 ^ n)

mask_test : ℕ → Bool
mask_test n = all 128 (λ v. beq (has (words (get_or masks n 0) 0) v) (below n v))

mask_holds : (n : ℕ) → n < 6 → WordsOf (words (get_or masks n 0) 0) (below n)
unfolding masks all has bit digit mask_test
mask_holds n h = by_test (words (get_or masks n 0) 0) (below n) (all-at 6 mask_test tt n h)

-- the low word through a mask, the high one gone
pub within_low : (a : Truths) (n : ℕ) → n < 6 → WordsOf (words (bit_and a.low (get_or masks n 0)) 0) (λ v. has a v && below n v)
unfolding WordsOf has
within_low a n h v l =
    ap₂ (cond (ltb v 64)) (bit-bit_and a.low (get_or masks n 0) v)
    (bit_of_zero (v - 64) ∙ sym (and_false (bit a.high (v - 64)))
    ∙ ap (λ (x : Bool). bit a.high (v - 64) && x) (sym (bit_of_zero (v - 64))))
    ∙ picked ◌&&◌ (ltb v 64) (bit a.low v) (bit (get_or masks n 0) v) (bit a.high (v - 64)) (bit 0 (v - 64))
    ∙ ap (λ (x : Bool). has a v && x) (mask_holds n h v l)

pub within_six : (a : Truths) (n : ℕ) → n ≡ 6 → WordsOf (words a.low 0) (λ v. has a v && below n v)
unfolding WordsOf has
within_six a n e v l = elim (lt_or_ge v 64) [
  | inl h ↦ rw (e, lt-ltb v 64 h) (sym (and_true (bit a.low v)))
  | inr h ↦ rw (e, le-ltb v 64 h) (bit_of_zero (v - 64) ∙ sym (and_false (bit a.high (v - 64))))
]

pub within_seven : (a : Truths) (n : ℕ) → 7 ≤ n → WordsOf a (λ v. has a v && below n v)
unfolding WordsOf
within_seven a n h v l = rw (lt-ltb v (2 ^ n) (omega (arith, pow_mono {i = 7} {j = n} h))) (sym (and_true (has a v)))

-- ---- the bytes

byte-bit : (w : Truths) (v : ℕ) → v < 128 → bit (words_byte w (v / 8)) (v % 8) ≡ has w v
unfolding words_byte has
byte-bit w v l = elim (lt_or_ge v 64) [
  | inl h ↦ rw (lt-ltb (v / 8) 8 (omega arith), lt-ltb v 64 h) (shifted w.low v (omega arith))
  | inr h ↦ rw (le-ltb (v / 8) 8 (omega arith), le-ltb v 64 h) (shifted w.high (v - 64) (omega arith))
]
  where
    shifted : (x u : ℕ) → 8 * (v / 8 % 8) + v % 8 ≡ u → bit (x / 2 ^ (8 * (v / 8 % 8)) % 256) (v % 8) ≡ bit x u
    shifted x u e = bit-mod 8 (x / 2 ^ (8 * (v / 8 % 8))) (v % 8) (omega arith) ∙ bit_shr x (8 * (v / 8 % 8)) (v % 8) ∙ ap (bit x) e

bytes_tell : (w : Truths) (t : List ℕ) → BytesOf w t → (v : ℕ) → v < 128 → truth t v ≡ has w v
unfolding truth
bytes_tell w t b v l = ap (λ (x : ℕ). bit x (v % 8)) (b.each (v / 8) (omega arith)) ∙ byte-bit w v l

bytes_small : (w : Truths) (t : List ℕ) → BytesOf w t → (j : ℕ) → get_or t j 0 < 256
unfolding words_byte
bytes_small w t b j = elim (lt_or_ge j 16) [
  | inl h ↦ subst (λ (x : ℕ). x < 256) (sym (b.each j h)) (mod-lt (cond (ltb j 8) w.low w.high / 2 ^ (8 * (j % 8))) (lit< tt))
  | inr h ↦ subst (λ (x : ℕ). x < 256) (sym (get_or-eq_default t 0 (omega (arith, b.sixteen)))) (lit< tt)
]

-- the bytes of the words of f, cut to n settings, are f's table
pub table_of : {n : ℕ} {f : ℕ → Bool} (w : Truths) {u : Truths} {t : List ℕ} → n < 8 → WordsOf w f → WordsOf u (λ v. has w v && below n v) → BytesOf u t → TableOf n f t
unfolding WordsOf Within
table_of {n} {f} w {u} {t} h hw hu b = record {
  sixteen = b.sixteen;
  bytes = bytes_small u t b;
  tells = λ v l. (let small : v < 128 = omega (arith, pow_mono {i = n} {j = 7} (omega arith)) in
      bytes_tell u t b v small ∙ hu v small ∙ ap (λ (x : Bool). has w v && x) (lt-ltb v (2 ^ n) l) ∙ and_true (has w v) ∙ hw v small);
  within = λ v l small. bytes_tell u t b v small ∙ hu v small ∙ ap (λ (x : Bool). has w v && x) (le-ltb v (2 ^ n) l) ∙ and_false (has w v);
}

-- one more byte stored
pub stored :
    (w : Truths) (t : List ℕ) (j x : ℕ) → length t ≡ 16 → j < 16 → ((k : ℕ) → k < j → get_or t k 0 ≡ words_byte w k) → x ≡ words_byte w j →
    (k : ℕ) → k < j + 1 → get_or (set t j x) k 0 ≡ words_byte w k
stored w t j x n h f e k l = elim (lt_or_ge k j) [
  | inl m ↦ get_or-set_other t j k x 0 (λ q. omega arith) ∙ f k m
  | inr m ↦ (let same : k ≡ j = omega arith in rw same (get_or-set_same t j x 0 (omega arith) ∙ e))
]
