-- Every public function's contract determines its result: any two results that it allows for the same arguments are equal. Each theorem speaks of the
-- function's own contract, as the check reads it: `Post` at the lifetimes, the arguments, the result and the arguments at exit. Nothing is lent. The
-- contracts speak of numbers and give their bits below 64; that there are no others is what the type u64 says of each field, `InWords`.
use mathlib.Core.Path.{◌≡◌, sym, ap, ap₂, ◌∙◌}
use mathlib.Core.Bool.{Bool}
use mathlib.Core.List.{List}
use Prim.Native.Nat.{ℕ, ◌+◌, ◌^◌, ◌<◌}
use native.Mathlib.Omega.{arith}
use lib.Seq.{ext_get_or}
use borrow.Author.Tests.{lt-ltb, le-ltb}
use Rattle.ground.specs.Digits.{bit}
use Rattle.ground.proofs.Bits.{same_bits}
use Rattle.formula_table.specs.Two.{has, WordsOf, BytesOf}
use Rattle.formula_table.specs.declared.Truths.{Truths}
use Rattle.formula_table.proofs.Truths.constant.Reads as constant
use Rattle.formula_table.proofs.Truths.letter.Reads as letter
use Rattle.formula_table.proofs.Truths.negated.Reads as negated
use Rattle.formula_table.proofs.Truths.and.Reads as and
use Rattle.formula_table.proofs.Truths.or.Reads as or
use Rattle.formula_table.proofs.Truths.within.Reads as within
use Rattle.formula_table.proofs.Truths.bytes.Reads as bytes

-- both fields are of the type u64
abbrev pub InWords : Truths → Type 0
InWords w = (w.low < 2 ^ 64) × (w.high < 2 ^ 64)

low_bit : (w : Truths) (i : ℕ) → i < 64 → has w i ≡ bit w.low i
unfolding has
low_bit w i h = rw (lt-ltb i 64 h)

high_bit : (w : Truths) (i : ℕ) → has w (64 + i) ≡ bit w.high i
unfolding has
high_bit w i = rw (le-ltb (64 + i) 64 (omega arith)) (ap (bit w.high) (omega arith))

-- one pair of words alone says what f says at each of the 128 valuations
module _ (f : ℕ → Bool) (w x : Truths) (a : InWords w) (b : InWords x) (p : WordsOf w f) (q : WordsOf x f) where
  agree : (v : ℕ) → v < 128 → has w v ≡ has x v
  unfolding WordsOf
  agree v h = p v h ∙ sym (q v h)

  same_low : w.low ≡ x.low
  same_low = same_bits 64 w.low x.low a.0 b.0 (λ i h. sym (low_bit w i h) ∙ agree i (omega arith) ∙ low_bit x i h)

  same-high : w.high ≡ x.high
  same-high = same_bits 64 w.high x.high a.1 b.1 (λ i h. sym (high_bit w i) ∙ agree (64 + i) (omega arith) ∙ high_bit x i)

  pub words_unique : w ≡ x
  words_unique = ap₂ (λ (low high : ℕ). record { low = low; high = high }) same_low same-high

pub constant_unique : (κs : _) (a : _) (x y : _) (s : _) → InWords x → InWords y → constant.Post κs a x s → constant.Post κs a y s → x ≡ y
constant_unique κs a x y s i j p q = words_unique _ x y i j p q

pub letter_unique : (κs : _) (a : _) (x y : _) (s : _) → InWords x → InWords y → letter.Post κs a x s → letter.Post κs a y s → x ≡ y
letter_unique κs a x y s i j p q = words_unique _ x y i j p q

pub negated_unique : (κs : _) (a : _) (x y : _) (s : _) → InWords x → InWords y → negated.Post κs a x s → negated.Post κs a y s → x ≡ y
negated_unique κs a x y s i j p q = words_unique _ x y i j p q

pub and_unique : (κs : _) (a : _) (x y : _) (s : _) → InWords x → InWords y → and.Post κs a x s → and.Post κs a y s → x ≡ y
and_unique κs a x y s i j p q = words_unique _ x y i j p q

pub or_unique : (κs : _) (a : _) (x y : _) (s : _) → InWords x → InWords y → or.Post κs a x s → or.Post κs a y s → x ≡ y
or_unique κs a x y s i j p q = words_unique _ x y i j p q

pub within_unique : (κs : _) (a : _) (x y : _) (s : _) → InWords x → InWords y → within.Post κs a x s → within.Post κs a y s → x ≡ y
within_unique κs a x y s i j p q = words_unique _ x y i j p q

-- the bytes of given words
same_bytes : {w : Truths} (t u : List ℕ) → BytesOf w t → BytesOf w u → t ≡ u
same_bytes t u p q =
    ext_get_or 0 t u (p.sixteen ∙ sym q.sixteen) (λ j l. p.each j (omega (arith, p.sixteen)) ∙ sym (q.each j (omega (arith, p.sixteen))))

pub bytes_unique : (κs : _) (a : _) (x y : _) (s : _) → bytes.Post κs a x s → bytes.Post κs a y s → x ≡ y
bytes_unique κs a x y s p q = same_bytes x y p q
