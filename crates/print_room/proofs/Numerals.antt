-- `decimal n` is the decimal of n, and no other text is: by induction on the number, a digit at a time from the last.
use mathlib.Core.Path.{◌≡◌, refl, sym, ap, ap₂, ◌∙◌, subst}
use mathlib.Core.Logic.{⊎_elim}
use mathlib.Core.List.{List, [], ◌∷◌, ◌++◌}
use Prim.Native.Nat.{ℕ, zero, suc, ◌+◌, ◌*◌, ◌-◌, ◌/◌, ◌%◌, ◌≤◌, ◌<◌}
use native.Mathlib.Omega.{arith}
use lib.ListN.{length, get_or, get_or-append}
use Rattle.ground.proofs.Bools.{lt_or_ge}
use Rattle.print_room.specs.Decimal.{glyph, decimal, AllDigits, value_from, IsDecimal}
use Rattle.print_room.proofs.Decimals.{decimal-small, decimal-more}

-- ---- one digit more

value_snoc : (a : ℕ) (s : List ℕ) (c : ℕ) → value_from a (s ++ c ∷ []) ≡ value_from a s * 10 + (c - 48)
value_snoc a [] c = refl
value_snoc a (d ∷ s) c = value_snoc (a * 10 + (d - 48)) s c

all_snoc : (s : List ℕ) (c : ℕ) → AllDigits s → 48 ≤ c → c ≤ 57 → AllDigits (s ++ c ∷ [])
all_snoc [] c all low high = (low, high, tt)
all_snoc (d ∷ s) c all low high = (all.0, all.1, all_snoc s c all.2 low high)

all_init : (s : List ℕ) (c : ℕ) → AllDigits (s ++ c ∷ []) → AllDigits s × (48 ≤ c) × (c ≤ 57)
all_init [] c all = (tt, all.0, all.1)
all_init (d ∷ s) c all = let x = all_init s c all.2 in ((all.0, all.1, x.0), x.1, x.2)

some : (s : List ℕ) → 48 < get_or s 0 0 → 0 < length s
some [] h = absurd (omega arith)
some (c ∷ s) h = omega arith

leading_snoc : (s : List ℕ) (c : ℕ) → 48 < get_or s 0 0 → 48 < get_or (s ++ c ∷ []) 0 0
leading_snoc s c h = rw (get_or-append s (c ∷ []) 0 0 (some s h)) h

pub decimal-is : (n : ℕ) → IsDecimal n (decimal n)
decimal-is n = up_to n n (omega arith)
  where
    small : (n : ℕ) → n < 10 → IsDecimal n (glyph n ∷ [])
    small n h = record {
      all_digits = (omega arith, omega arith, tt);
      value = omega arith;
      leading = λ k. omega arith;
      nought = λ e. ap (λ (x : ℕ). glyph x ∷ []) e;
    }

    more : (n : ℕ) → 10 ≤ n → IsDecimal (n / 10) (decimal (n / 10)) → IsDecimal n (decimal (n / 10) ++ glyph (n % 10) ∷ [])
    more n h d =
        let s = decimal (n / 10) in
        record {
          all_digits = all_snoc s (glyph (n % 10)) d.all_digits (omega arith) (omega arith);
          value = value_snoc 0 s (glyph (n % 10)) ∙ omega (arith, d.value);
          leading = λ k. leading_snoc s (glyph (n % 10)) (d.leading (omega arith));
          nought = λ e. absurd (omega arith);
        }

    up_to : (most n : ℕ) → n ≤ most → IsDecimal n (decimal n)
    up_to zero n h = rw (decimal-small n (omega arith)) (small n (omega arith))
    up_to (suc most) n h =
        ⊎_elim
        (λ (k : n < 10). rw (decimal-small n k) (small n k))
        (λ (k : 10 ≤ n). rw (decimal-more n k) (more n k (up_to most (n / 10) (omega arith))))
        (lt_or_ge n 10)

-- ---- no other text

grows : (a : ℕ) (s : List ℕ) → a ≤ value_from a s
grows a [] = omega arith
grows a (c ∷ s) = omega (arith, grows (a * 10 + (c - 48)) s)

last : (s : List ℕ) → 0 < length s → (t : List ℕ) × (c : ℕ) × (s ≡ t ++ c ∷ [])
last [] h = absurd (omega arith)
last (c ∷ []) h = ([], c, refl)
last (c ∷ d ∷ s) h = let x = last (d ∷ s) (omega arith) in (c ∷ x.0, x.1, ap (λ (l : List ℕ). c ∷ l) x.2)

module _ (n : ℕ) (c : ℕ) where
  one-digit : (t : List ℕ) → n < 10 → 0 < n → IsDecimal n (t ++ c ∷ []) → t ++ c ∷ [] ≡ decimal n
  one-digit [] h k d = ap (λ (x : ℕ). x ∷ []) (omega (arith, d.value, d.all_digits.0)) ∙ sym (decimal-small n h)
  one-digit (x ∷ t) h k d =
      absurd (omega (arith, d.leading k, d.value, value_snoc 0 (x ∷ t) c, grows (0 * 10 + (x - 48)) t))

  init_is : (t : List ℕ) → 10 ≤ n → IsDecimal n (t ++ c ∷ []) → IsDecimal (n / 10) t × (c ≡ glyph (n % 10))
  init_is [] h d = absurd (omega (arith, d.value, d.all_digits.1))
  init_is (x ∷ t) h d =
      let a = all_init (x ∷ t) c d.all_digits in
      let v = sym (value_snoc 0 (x ∷ t) c) ∙ d.value in (
        record { all_digits = a.0; value = omega arith; leading = λ k. d.leading (omega arith); nought = λ e. absurd (omega arith) },
        omega (arith, v, a.1, a.2),
      )

pub decimal_unique : {n : ℕ} {s : List ℕ} → IsDecimal n s → s ≡ decimal n
decimal_unique {n} {s} d = up_to n n s (omega arith) d
  where
    nought-only : (n : ℕ) (s : List ℕ) → n ≤ 0 → IsDecimal n s → s ≡ decimal n
    nought-only n s h d =
        let e : n ≡ 0 = omega arith in
        d.nought e ∙ sym (decimal-small 0 (omega arith)) ∙ ap decimal (sym e)

    up_to : (most n : ℕ) (s : List ℕ) → n ≤ most → IsDecimal n s → s ≡ decimal n
    up_to zero n s h d = nought-only n s h d
    up_to (suc most) n s h d =
        ⊎_elim
        (λ (some-n : 0 < n).
        let x = last s (some s (d.leading some-n)) in
        let e = subst (IsDecimal n) x.2 d in
        ⊎_elim
        (λ (k : n < 10). x.2 ∙ one-digit n x.1 x.0 k some-n e)
        (λ (k : 10 ≤ n).
        let i = init_is n x.1 x.0 k e in
        x.2
        ∙ ap₂ (λ (l : List ℕ) (c : ℕ). l ++ c ∷ []) (up_to most (n / 10) x.0 (omega arith) i.0) i.1
        ∙ sym (decimal-more n k))
        (lt_or_ge n 10))
        (λ (none : n ≤ 0). nought-only n s none d)
        (lt_or_ge 0 n)
