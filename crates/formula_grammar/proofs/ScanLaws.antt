-- The tests on one byte, as code makes them one after the other, and the first look as far as it has come.
use mathlib.Core.Path.{◌≡◌, sym, subst, ◌∙◌, refl}
use mathlib.Core.Logic.{inl, inr}
use mathlib.Core.List.{List}
use mathlib.Core.Bool.{Bool, true, false, not, ◌||◌}
use Prim.Native.Nat.{ℕ, ◌+◌, ◌-◌, ◌≤◌, ◌<◌}
use native.Mathlib.Omega.{arith}
use lib.Dec.{T, leb, eqb, leb→le, eqb_refl, eqb→eq}
use mathlib.Core.Bool.{or_assoc, or-false}
use lib.ListN.{length, get_or}
use borrow.Author.Tests.{ne_eqb, le-leb, lt-leb}
use Rattle.ground.proofs.Bools.{decide, true→T, false→T, T→true, T→false, or_out, or_left, or_right, both, and_left, and_right, lt_or_ge}
use Rattle.std.specs.Prelude.{Err}
use Rattle.refusal.specs.declared.Refusal.{Refusal}
use Rattle.refusal.specs.declared.Refusal.TheVariants.{StrayByte, LetterPast}
use Rattle.formula_grammar.specs.Scans.{Scans}
use Rattle.formula_grammar.specs.Signs.{is_letter, is_sign, is_stray, is_past, Foreign, foreign_byte}

pub no_letter : (c : ℕ) → c < 97 → false ≡ is_letter c
unfolding is_letter
no_letter c h = rw (lt-leb 97 c h)

pub letter-high : (c : ℕ) → 97 ≤ c → leb c 103 ≡ is_letter c
unfolding is_letter
letter-high c h = rw (le-leb 97 c h)

-- what a letter is at least
pub letter-low : (c : ℕ) → true ≡ is_letter c → 97 ≤ c
unfolding is_letter
letter-low c e = leb→le 97 c (and_left (leb 97 c) (leb c 103) (true→T (sym e)))

pub letter-small : (c : ℕ) → true ≡ is_letter c → c - 97 < 7
unfolding is_letter
letter-small c e = let h = leb→le c 103 (and_right (leb 97 c) (leb c 103) (true→T (sym e))) in omega arith

eqb_turned : (a b : ℕ) → eqb a b ≡ eqb b a
eqb_turned a b = elim (decide (eqb a b)) [
  | inl t ↦ T→true _ t ∙ sym (T→true (eqb b a) (subst (λ (x : ℕ). T (eqb x a)) (eqb→eq _ _ t) (eqb_refl a)))
  | inr f ↦ T→false _ f ∙ sym (ne_eqb b a (λ e. both (eqb a b) (subst (λ (x : ℕ). T (eqb a x)) (sym e) (eqb_refl a)) f))
]

-- a byte looked up in the list of the signs
pub signs : (c : ℕ) → (eqb 48 c || (eqb 49 c || (eqb 126 c || (eqb 38 c || (eqb 124 c || (eqb 40 c || (eqb 41 c || false))))))) ≡ is_sign c
unfolding is_sign
signs c =
    rw (eqb_turned 48 c, eqb_turned 49 c, eqb_turned 126 c, eqb_turned 38 c, eqb_turned 124 c, eqb_turned 40 c, eqb_turned 41 c, or-false, ← or_assoc, ← or_assoc, ← or_assoc, ← or_assoc, ← or_assoc)

pub letter-not_stray : (c : ℕ) → is_letter c ≡ true → false ≡ is_stray c
unfolding is_stray
letter-not_stray c e = rw e

pub sign_not_stray : (c : ℕ) → is_letter c ≡ false → not (is_sign c) ≡ is_stray c
unfolding is_stray
sign_not_stray c e = rw e

pub past-letter : (n c : ℕ) → is_letter c ≡ true → 97 ≤ c → leb n (c - 97) ≡ is_past n c
unfolding is_past
past-letter n c e h = elim (lt_or_ge (c - 97) n) [
  | inl l ↦ rw (e, lt-leb n (c - 97) l, lt-leb (97 + n) c (omega arith))
  | inr l ↦ rw (e, le-leb n (c - 97) l, le-leb (97 + n) c (omega arith))
]

pub past-none : (n c : ℕ) → is_letter c ≡ false → false ≡ is_past n c
unfolding is_past
past-none n c e = rw e

-- no byte is both stray and a letter
pub not_both : (n c : ℕ) → T (is_stray c) → T (is_past n c) → ⊥
unfolding is_stray is_past
not_both n c h k = both (is_letter c || is_sign c) (or_left (is_letter c) (is_sign c) (and_left (is_letter c) (leb (97 + n) c) k)) h

-- no foreign byte among the first i
abbrev pub CleanTo : ℕ → List ℕ → ℕ → Type 0
CleanTo n s i = (j : ℕ) → j < i → Foreign n s j → ⊥

-- the refusal of the first foreign byte
pub foreign_first : (n : ℕ) (s : List ℕ) (i : ℕ) (r : Refusal) → i < length s → CleanTo n s i → T (is_stray (get_or s i 0) || is_past n (get_or s i 0)) → r ≡ foreign_byte s i
    → Scans n s (Err r)
foreign_first n s i r l h t e = (i, record { here = (l, t); none_below = h }, e)

pub stray_first : (n : ℕ) (s : List ℕ) (i : ℕ) → i < length s → CleanTo n s i → is_stray (get_or s i 0) ≡ true → Scans n s (Err (StrayByte i))
stray_first n s i l h e = foreign_first n s i _ l h (or_left (is_stray (get_or s i 0)) (is_past n (get_or s i 0)) (true→T e)) (rw e)

past-not_stray : (n c : ℕ) (b : Bool) → is_stray c ≡ b → is_past n c ≡ true → is_stray c ≡ false
past-not_stray n c true f e = absurd (not_both n c (true→T f) (true→T e))
past-not_stray n c false f e = f

pub past_first : (n : ℕ) (s : List ℕ) (i : ℕ) → i < length s → CleanTo n s i → is_past n (get_or s i 0) ≡ true → Scans n s (Err (LetterPast i))
past_first n s i l h e =
    foreign_first n s i _ l h (or_right (is_stray (get_or s i 0)) (is_past n (get_or s i 0)) (true→T e)) (rw (past-not_stray n (get_or s i 0) _ refl e))

pub clean-more : (n : ℕ) (s : List ℕ) (i : ℕ) → CleanTo n s i → is_stray (get_or s i 0) ≡ false → is_past n (get_or s i 0) ≡ false → CleanTo n s (i + 1)
clean-more n s i h e f j l x = elim (lt_or_ge j i) [
  | inl k ↦ h j k x
  | inr k ↦ (let same : j ≡ i = omega arith in
      let y = subst (λ (j : ℕ). T (is_stray (get_or s j 0) || is_past n (get_or s j 0))) same x.1 in
      elim (or_out (is_stray (get_or s i 0)) (is_past n (get_or s i 0)) y) [ inl t ↦ both (is_stray (get_or s i 0)) t (false→T e) | inr t ↦ both (is_past n (get_or s i 0)) t (false→T f) ])
]
