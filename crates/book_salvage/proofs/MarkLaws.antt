-- Marks are read bit by bit: a mark is added above those there are, and their count is 0 exactly where there is none.
use mathlib.Core.Path.{◌≡◌, refl, sym, ap, ◌∙◌, subst}
use mathlib.Core.Bool.{Bool, true, false, not}
use mathlib.Core.List.{List}
use Prim.Native.Nat.{ℕ, zero, suc, ◌+◌, ◌*◌, ◌/◌, ◌%◌, ◌^◌, ◌≤◌, ◌<◌}
use native.Mathlib.Nat.{le_refl, pow-succ', one-mul, not-suc-le-zero, lt_of_lt_of_le, add-zero, add-suc}
use native.Mathlib.Numerals.{add-one}
use native.Mathlib.Omega.{arith}
use lib.Dec.{eqb, lit<}
use lib.Count.{ones_step}
use Rattle.std.specs.Prelude.{count_ones}
use Rattle.std.proofs.lemmas.Nat.{ones_le_self}
use lib.Pow.{pow_mono, shl_exact}
use Rattle.ground.specs.Digits.{digit, bit}
use Rattle.ground.specs.Tells.{Tells}
use Rattle.ground.proofs.Bits.{same_bits, bit_of_zero}
use Rattle.ground.proofs.Digits.{digit_top, digit_low, digit_lt, digit-above}
use Rattle.ground.proofs.HighBits.{high_bit}
use Rattle.ground.proofs.Search.{below_suc}
use Rattle.book_block.specs.Check.{block}
use Rattle.book_salvage.specs.Salvaged.{Stands, MarksOf, ones}

-- ---- one mark more

pub mark_is : (i : ℕ) → i < 8 → 1 * 2 ^ i % 256 ≡ 2 ^ i
mark_is i h = shl_exact 1 i 8 (lit< tt) (omega arith) ∙ one-mul (2 ^ i)

pub mark_most : (i : ℕ) → i < 8 → 2 ^ i ≤ 128
mark_most i h = pow_mono {i = i} {j = 7} (omega arith)

module _ (marks i : ℕ) (small : marks < 2 ^ i) where
  pub unmarked : bit marks i ≡ false
  unmarked = high_bit marks i i small (le_refl i)

  pub unmarked_small : marks < 2 ^ suc i
  unmarked_small = rw pow-succ' (omega arith)

  top : marks + 2 ^ i ≡ 1 * 2 ^ i + marks
  top = omega arith

  pub marked-here : bit (marks + 2 ^ i) i ≡ true
  unfolding bit
  marked-here =
      ap (λ (x : ℕ). eqb (digit 2 x i) 1) top
      ∙ ap (λ (d : ℕ). eqb d 1) (digit_top {b = 2} (lit< tt) i marks 1 small (lit< tt))

  pub marked-below : (k : ℕ) → k < i → bit (marks + 2 ^ i) k ≡ bit marks k
  unfolding bit
  marked-below k h =
      ap (λ (x : ℕ). eqb (digit 2 x k) 1) top
      ∙ ap (λ (d : ℕ). eqb d 1) (digit_low {b = 2} (lit< tt) i marks 1 k small h)

  pub marked-small : marks + 2 ^ i < 2 ^ suc i
  marked-small = rw pow-succ' (omega arith)

-- ---- the marks of a book, setting by setting

-- those of the settings below i
pub record MarkedTo (book : List ℕ) (n m i marks : ℕ) : Type 0 where
  pub tells : (k : ℕ) → k < i → Tells (not (bit marks k)) (Stands n m (block book (1 + k)))
  pub small : marks < 2 ^ i

module _ {book : List ℕ} {n m : ℕ} where
  pub marked-none : MarkedTo book n m 0 0
  marked-none = record { tells = λ k h. absurd (not-suc-le-zero h); small = lit< tt }

  -- a mark more, off where the block stands
  pub marked_more : (i marks next : ℕ) (stands : Bool) → MarkedTo book n m i marks → Tells stands (Stands n m (block book (1 + i)))
      → next < 2 ^ suc i → bit next i ≡ not stands → ((k : ℕ) → k < i → bit next k ≡ bit marks k) → MarkedTo book n m (i + 1) next
  marked_more i marks next stands so t small here below =
      subst (λ j. MarkedTo book n m j next) (sym (add-one i))
      (record {
        tells = λ k h. below_suc k i h
            (λ e. subst (λ j. Tells (not (bit next j)) (Stands n m (block book (1 + j)))) (sym e)
            (subst (λ b. Tells b (Stands n m (block book (1 + i)))) (sym (ap not here ∙ twice stands)) t))
            (λ l. subst (λ b. Tells (not b) (Stands n m (block book (1 + k)))) (sym (below k l)) (so.tells k l));
        small = small;
      })
    where
      twice : (b : Bool) → not (not b) ≡ b
      twice true = refl
      twice false = refl

  pub marked_all : {marks : ℕ} → MarkedTo book n m n marks → MarksOf book n m marks
  marked_all so = record { tells = so.tells; within = so.small }

-- ---- one set of marks alone, and none

tells-one : (A : Type 0) (a b : Bool) → Tells (not a) A → Tells (not b) A → a ≡ b
tells-one A true true p q = refl
tells-one A true false p q = absurd (p q)
tells-one A false true p q = absurd (q p)
tells-one A false false p q = refl

pub marks-one : {book : List ℕ} {n m a b : ℕ} → MarksOf book n m a → MarksOf book n m b → a ≡ b
marks-one {n = n} {a = a} {b = b} p q =
    same_bits n a b p.within q.within (λ i h. tells-one _ (bit a i) (bit b i) (p.tells i h) (q.tells i h))

-- where every block stands there is no mark
pub marks-none : {book : List ℕ} {n m : ℕ} → ((i : ℕ) → i < n → Stands n m (block book (1 + i))) → MarksOf book n m 0
marks-none {book} {n} {m} all =
    record {
      tells = λ i h. subst (λ b. Tells (not b) (Stands n m (block book (1 + i)))) (sym (bit_of_zero i)) (all i h);
      within = pow_mono {i = 0} {j = n} (omega arith);
    }

-- they are seven bits at most
pub marked-small-byte : {book : List ℕ} {n m marks : ℕ} → MarksOf book n m marks → n ≤ 7 → marks < 128
marked-small-byte {n = n} p most = lt_of_lt_of_le p.within (pow_mono {i = n} {j = 7} most)

-- what no mark says
pub unmarked_stands : {A : Type 0} {b : Bool} → Tells (not b) A → b ≡ false → A
unmarked_stands {A} t e = subst (λ x. Tells (not x) A) e t

-- ---- how many

pub ones-most : (k marks : ℕ) → ones k marks ≤ k
unfolding ones
ones-most zero marks = le_refl 0
ones-most (suc k) marks =
    let d : digit 2 marks k < 2 = digit_lt {b = 2} (lit< tt) marks k in omega (arith, ones-most k marks)

-- the marks of a byte, as its bits are counted
pub ones_counted : (marks : ℕ) → marks < 256 → count_ones marks ≡ ones 8 marks
unfolding ones digit
ones_counted marks h =
    omega (
      arith,
      h,
      ones_step marks,
      ones_step (marks / 2),
      ones_step (marks / 2 / 2),
      ones_step (marks / 2 / 2 / 2),
      ones_step (marks / 2 / 2 / 2 / 2),
      ones_step (marks / 2 / 2 / 2 / 2 / 2),
      ones_step (marks / 2 / 2 / 2 / 2 / 2 / 2),
      ones_step (marks / 2 / 2 / 2 / 2 / 2 / 2 / 2),
      ones_le_self (marks / 2 / 2 / 2 / 2 / 2 / 2 / 2 / 2),
    )

pub ones_none : ones 8 0 ≡ 0
unfolding ones digit
ones_none = refl

-- marks that have no bit at or past n are counted over n settings
pub ones-past : (n d marks : ℕ) → marks < 2 ^ n → ones (n + d) marks ≡ ones n marks
unfolding ones
ones-past n zero marks h = ap (λ k. ones k marks) (add-zero n)
ones-past n (suc d) marks h =
    let none : digit 2 marks (n + d) ≡ 0 =
    digit-above {b = 2} (lit< tt) marks (n + d) (lt_of_lt_of_le h (pow_mono {i = n} {j = n + d} (omega arith))) in
    ap (λ k. ones k marks) (add-suc n d) ∙ omega (arith, none, ones-past n d marks h)

-- where none is counted there is none
none-counted : (k marks : ℕ) → ones k marks ≡ 0 → (i : ℕ) → i < k → digit 2 marks i ≡ 0
unfolding ones
none-counted zero marks e i h = absurd (not-suc-le-zero h)
none-counted (suc k) marks e i h =
    below_suc i k h (λ s. subst (λ j. digit 2 marks j ≡ 0) (sym s) (omega (arith, e))) (λ l. none-counted k marks (omega (arith, e)) i l)

pub ones_zero : (k marks : ℕ) → marks < 2 ^ k → ones k marks ≡ 0 → marks ≡ 0
unfolding bit
ones_zero k marks h e =
    same_bits k marks 0 h (omega (arith, h)) (λ i l. ap (λ (d : ℕ). eqb d 1) (none-counted k marks e i l) ∙ sym (bit_of_zero i))
