-- Tables by their bits: a bit of a table that begins inside a longer list, and tables that tell the same are the same.
use mathlib.Core.Path.{◌≡◌, sym, ap, ◌∙◌}
use mathlib.Core.Logic.{inl, inr}
use mathlib.Core.List.{List}
use mathlib.Core.Bool.{Bool, true, false}
use Prim.Native.Nat.{ℕ, ◌+◌, ◌*◌, ◌/◌, ◌%◌, ◌^◌, ◌≤◌, ◌<◌}
use native.Mathlib.Omega.{arith}
use lib.Arith.{digits_div, digits_mod}
use lib.Dec.{eqb}
use lib.ListN.{length, get_or, take, drop, replicate, length-replicate, get_or-replicate, get_or-eq_default}
use lib.Pow.{pow_mono}
use lib.Seq.{get_or-drop, get_or-take, ext_get_or}
use Rattle.ground.specs.Digits.{bit, digit}
use Rattle.ground.specs.Table.{truth, Within, TableOf}
use Rattle.ground.proofs.Bits.{same_bits, bit_of_zero}
use Rattle.ground.proofs.Bools.{lt_or_ge}

-- the bit as code takes it, from the byte that holds it
pub truth_in : (s : List ℕ) (from v : ℕ) → eqb (get_or s (from + v / 8) 0 / 2 ^ (v % 8) % 2) 1 ≡ truth (drop from s) v
unfolding truth bit digit
truth_in s from v = rw get_or-drop

-- a table that ends before the byte says false
pub truth_out : (s : List ℕ) (from v : ℕ) → length s ≤ from + v / 8 → false ≡ truth (drop from s) v
unfolding truth
truth_out s from v h = rw (get_or-drop, get_or-eq_default s 0 h) (sym (bit_of_zero (v % 8)))

-- zeros: each byte is 0, also past their end, and as a table they say false at every valuation
pub zero_at : (k i : ℕ) → ◌≡◌ {A = ℕ} (get_or (replicate k 0) i 0) 0
zero_at k i = elim (lt_or_ge i k) [ inl h ↦ get_or-replicate k i 0 0 h | inr h ↦ get_or-eq_default (replicate {A = ℕ} k 0) 0 (omega (arith, length-replicate {A = ℕ} k 0)) ]

pub zero_truth : (v : ℕ) → truth (replicate 16 0) v ≡ false
unfolding truth
zero_truth v = ap (λ (x : ℕ). bit x (v % 8)) (zero_at 16 (v / 8)) ∙ bit_of_zero (v % 8)

-- bit k of byte j is what the table says at 8 j + k
pub truth-bit : (t : List ℕ) (j k : ℕ) → k < 8 → truth t (j * 8 + k) ≡ bit (get_or t j 0) k
unfolding truth
truth-bit t j k h = rw (digits_div j h, digits_mod j h)

-- the first sixteen bytes say all that a table says
pub truth-take : (t : List ℕ) (v : ℕ) → v < 128 → truth (take 16 t) v ≡ truth t v
unfolding truth
truth-take t v h = rw (get_or-take 16 t (v / 8) 0 (omega arith))

-- no bit past 2^n below v, and one more
abbrev pub WithinTo : ℕ → List ℕ → ℕ → Type 0
WithinTo n t v = (u : ℕ) → 2 ^ n ≤ u → u < v → truth t u ≡ false

pub within_more : (n : ℕ) (t : List ℕ) (v : ℕ) → WithinTo n t v → truth t v ≡ false → WithinTo n t (v + 1)
within_more n t v f e u l h = elim (lt_or_ge u v) [ inl m ↦ f u l m | inr m ↦ (let same : u ≡ v = omega arith in rw same e) ]

-- a bit past 2^n
pub not_within : (n : ℕ) (t : List ℕ) (v : ℕ) → 2 ^ n ≤ v → v < 128 → truth t v ≡ true → Within n t → ⊥
unfolding Within
not_within n t v l h e w = let z : true ≡ false = sym e ∙ w v l h in let y : ◌≡◌ {A = ℕ} 0 1 = cc in omega arith

pub within_all : (n : ℕ) (t : List ℕ) → WithinTo n t 128 → Within n t
unfolding Within
within_all n t f v l h = f v l h

-- seven settings leave no bit past
pub within_seven : (n : ℕ) (t : List ℕ) → 7 ≤ n → Within n t
unfolding Within
within_seven n t l v h k = absurd (omega (arith, pow_mono {i = 7} {j = n} l))

-- two tables of one truth are one table
pub table_unique : {n : ℕ} {f g : ℕ → Bool} {t u : List ℕ} → ((v : ℕ) → v < 2 ^ n → f v ≡ g v) → TableOf n f t → TableOf n g u → t ≡ u
unfolding Within
table_unique {n} {f} {g} {t} {u} same a b =
    ext_get_or 0 t u (a.sixteen ∙ sym b.sixteen)
    (λ j h. same_bits 8 (get_or t j 0) (get_or u j 0) (a.bytes j) (b.bytes j)
    (λ k l. sym (truth-bit t j k l) ∙ agree (j * 8 + k) (omega (arith, a.sixteen)) ∙ truth-bit u j k l))
  where
    agree : (v : ℕ) → v < 128 → truth t v ≡ truth u v
    agree v l = elim (lt_or_ge v (2 ^ n)) [
      | inl h ↦ a.tells v h ∙ same v h ∙ sym (b.tells v h)
      | inr h ↦ a.within v h l ∙ sym (b.within v h l)
    ]
