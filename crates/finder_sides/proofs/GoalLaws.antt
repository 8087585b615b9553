-- The goal's two halves over all sides: the entry of the make formula is its one bit, that of a learn formula has a bit exactly where it is settled,
-- and learn formulas are settled together where each is.
use mathlib.Core.Path.{◌≡◌, refl, sym, ap, ap₂, ◌∙◌}
use mathlib.Core.Logic.{inl, inr}
use mathlib.Core.List.{List, []}
use mathlib.Core.Bool.{Bool, true, false, not, ◌&&◌, ◌||◌}
use Prim.Native.Nat.{ℕ, zero, suc, ◌+◌, ◌*◌, ◌%◌, ◌^◌, ◌≤◌, ◌<◌}
use native.Mathlib.Numerals.{add-one}
use native.Mathlib.Omega.{arith}
use lib.Dec.{eqb, lit<}
use lib.ListN.{get_or, take, drop, replicate, get_or-replicate, get_or-eq_default}
use lib.Pow.{pow_mono}
use Rattle.ground.specs.Digits.{digit, bit}
use Rattle.ground.specs.Search.{all}
use Rattle.ground.specs.Table.{truth}
use Rattle.ground.proofs.Bits.{below_2, bit_of_zero}
use Rattle.ground.proofs.Bools.{T→true, lt_or_ge}
use Rattle.knowledge.specs.Fits.{always, is}
use Rattle.knowledge.specs.Judgement.{judgement, settles}
use Rattle.knowledge.proofs.Fits.{always_intro}
use Rattle.knowledge.proofs.JudgementLaws.{holds-is, settles-is, judgement-take}
use Rattle.knowledge.specs.Goal.{learn_table}
use Rattle.finder_sides.specs.Tables.{one_of, SideTable, Made}
use Rattle.finder_sides.proofs.CountLaws.{sides-most}
use Rattle.finder_sides.proofs.Ones.{one_lt, side_some}
use Rattle.finder_sides.specs.Fill.{Filled}
use Rattle.finder_sides.specs.Inner.{EachColumn, MadeAt, same_of, SettledAt, Settled, both_of, Meets}

-- small entries by their bits
one_bit : (e : ℕ) → e < 2 → e ≡ one_of (bit e 0)
unfolding bit digit
one_bit e h = below_2 (λ e. e ≡ one_of (bit e 0)) refl refl e h

two-bits : (e : ℕ) → e < 3 → not (eqb e 0) ≡ (bit e 0 || bit e 1)
unfolding bit digit
two-bits zero h = refl
two-bits (suc zero) h = refl
two-bits (suc (suc zero)) h = refl
two-bits (suc (suc (suc e))) h = absurd (omega arith)

one-low : (b : Bool) → bit (one_of b) 0 ≡ b
unfolding bit digit
one-low true = refl
one-low false = refl

same_low : (b : Bool) → bit (same_of b) 0 ≡ b
unfolding bit digit
same_low true = refl
same_low false = refl

same_next : (b : Bool) → bit (same_of b) 1 ≡ not b
unfolding bit digit
same_next true = refl
same_next false = refl

same_lt : (b : Bool) → same_of b < 3
same_lt true = lit< tt
same_lt false = lit< tt

module _ {n : ℕ} {columns t : List ℕ} (filled : Filled n columns t) where
  -- columns of one bit
  pub side_table : (b : Bool) (table : List ℕ) → ((v : ℕ) → v < 2 ^ n → get_or columns v 0 ≡ one_of (is b (truth table v)))
      → SideTable n (λ s. always b n (digit 3 s) table) t
  side_table b table cols = record {
    long = filled.long;
    each = λ s h.
        one_bit (get_or t s 0) ((filled.each s h).small 2 (λ v m. rw (cols v m) (one_lt (is b (truth table v)))))
        ∙ ap one_of ((filled.each s h).tells 0 true b table (λ v m. rw (cols v m) (one-low (is b (truth table v)))));
    past = filled.past;
  }

  pub made_table : (make : List ℕ) → EachColumn (MadeAt make) (2 ^ n) columns → Made n make t
  made_table make cols =
      let w = side_table true make cols in
      record { long = w.long; each = λ s h. w.each s h ∙ ap one_of (sym (holds-is n (digit 3 s) make)); past = w.past }

  pub settled-table : (table : List ℕ) → EachColumn (SettledAt table) (2 ^ n) columns → Settled n table t
  settled-table table cols = record {
    long = filled.long;
    each = λ s h.
        two-bits (get_or t s 0) ((filled.each s h).small 3 (λ v m. rw (cols v m) (same_lt (truth table v))))
        ∙ ap₂ ◌||◌
        ((filled.each s h).tells 0 true true table (λ v m. rw (cols v m) (same_low (truth table v))))
        ((filled.each s h).tells 1 true false table (λ v m. rw (cols v m) (same_next (truth table v))))
        ∙ sym (settles-is n (digit 3 s) table);
    past = filled.past;
  }

-- no bytes tell false
truth-none : (v : ℕ) → truth [] v ≡ false
unfolding truth
truth-none v = bit_of_zero (v % 8)

-- columns of 1: every side
pub table_of_ones : {n : ℕ} {t : List ℕ} → n ≤ 7 → Filled n (replicate 128 1) t → SideTable n (λ s. true) t
table_of_ones {n} {t} most filled =
    let w = side_table filled false [] (λ v m. get_or-replicate 128 v 1 0 (omega (arith, m, pow_mono most)) ∙ sym (rw (truth-none v) refl)) in
    record { long = w.long; each = λ s h. w.each s h ∙ ap one_of (none_true s); past = w.past }
  where
    none_true : (s : ℕ) → always false n (digit 3 s) [] ≡ true
    none_true s = T→true (always false n (digit 3 s) []) (always_intro false n (digit 3 s) [] (λ v l f. rw (truth-none v) tt))

and_turned : (a b : Bool) → (a && b) ≡ (b && a)
and_turned true true = refl
and_turned true false = refl
and_turned false true = refl
and_turned false false = refl

-- the first j learn formulas
abbrev pub LearntTo : ℕ → List ℕ → ℕ → List ℕ → Type 0
LearntTo n learn j t = SideTable n (λ s. all j (λ i. settles (judgement n (digit 3 s) (learn_table learn i)))) t

pub learnt-none : {n : ℕ} {t : List ℕ} (learn : List ℕ) → n ≤ 7 → Filled n (replicate 128 1) t → LearntTo n learn 0 t
unfolding all
learnt-none learn most filled = table_of_ones most filled

pub learnt-more : {n : ℕ} (j : ℕ) {a b t : List ℕ} (learn : List ℕ) → n ≤ 7 → LearntTo n learn j a → Settled n (drop (16 * j) learn) b → Meets a b t
    → LearntTo n learn (j + 1) t
unfolding all both_of learn_table
learnt-more {n} j {a} {b} {t} learn most x y m = record {
  long = m.long;
  each = λ s h.
      rw (add-one j)
      (m.each s (omega (arith, h, sides-most n most))
      ∙ ap one_of (ap₂ ◌&&◌ (side_some x s h)
      (y.each s h ∙ ap settles (sym (judgement-take n (digit 3 s) (drop (16 * j) learn) most)))
      ∙ and_turned (all j (λ i. settles (judgement n (digit 3 s) (take 16 (drop (16 * i) learn)))))
      (settles (judgement n (digit 3 s) (take 16 (drop (16 * j) learn))))));
  past = λ s h. elim (lt_or_ge s 2187) [
    | inl l ↦ m.each s l ∙ rw (x.past s h) refl
    | inr l ↦ get_or-eq_default t 0 (omega (arith, m.long))
  ];
}
