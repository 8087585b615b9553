-- The computed answer is the one that `read` gives: it is taken only where no row of the order is given, and a refusal is the first that is given.
use mathlib.Core.Path.{◌≡◌, refl, sym, ap, ◌∙◌, subst}
use mathlib.Core.Logic.{◌⊎◌, inl, inr}
use mathlib.Core.List.{List, [], ◌∷◌}
use mathlib.Core.Bool.{Bool, true, false, not, ◌&&◌, ◌||◌, cond}
use Rattle.std.specs.Prelude.{Result, Ok, Err}
use Prim.Native.Nat.{ℕ, zero, suc, ◌+◌, ◌<◌}
use native.Mathlib.Nat.{add-zero, zero-add}
use native.Mathlib.Omega.{arith}
use lib.Dec.{T, leb, leb→le, le→leb}
use lib.ListN.{length, get_or}
use Rattle.ground.specs.Bounds.{SettingsFit}
use Rattle.ground.specs.Search.{Least}
use Rattle.ground.proofs.Bools.{decide, T→true, T→false, true→T, false→T, both, and_in, and_left, and_right, or_left, or_right}
use Rattle.refusal.specs.declared.Refusal.{Refusal}
use Rattle.refusal.specs.declared.Refusal.TheVariants.{StrayByte, LetterPast, NotSentence}
use Rattle.refusal.specs.Order.{First, Clear}
use Rattle.refusal.proofs.OrderLaws.{clear_none, clear-past, clear-lowest, first_unique, first-clear}
use Rattle.formula_grammar.specs.Signs.{is_stray, is_past, Foreign}
use Rattle.formula_grammar.specs.Automaton.{wants, Verdict, whole, breaks, verdict}
use Rattle.formula_grammar.proofs.Begins.{whole-sentence}
use Rattle.formula.specs.Read.{LengthFits, formula_rows, ReadsFormula}
use Rattle.formula.specs.Computed.{sentence_answer, foreign_answer, formula_answer, without_table}
use Rattle.formula.proofs.Unique.{accepts_clear}
use Rattle.formula.proofs.Answers.{no_settings, no_length, foreign_at, broken}

-- what an answer says of the rows
abbrev pub Told : ℕ → List ℕ → Result (Unit {0}) Refusal → Type 0
Told n s (Ok _) = Clear (formula_rows n s)
Told n s (Err r) = First (formula_rows n s) r

-- ---- 4

module _ (n : ℕ) (s : List ℕ) (fit : SettingsFit n) (size : LengthFits s) (clean : (j : ℕ) → Foreign n s j → ⊥) where
  sentence-told : Told n s (sentence_answer s)
  unfolding sentence_answer
  sentence-told = go (verdict (wants 0) 0 s) refl
    where
      go : (v : Verdict) → verdict (wants 0) 0 s ≡ v → Told n s (elim v [ whole ↦ Ok tt | breaks i ↦ Err (NotSentence i) ])
      go whole e = clear-past fit (clear-past size (clear-lowest clean (clear-lowest (λ i x. x.0 (whole-sentence s e)) clear_none)))
      go (breaks i) e = broken n s fit size clean i e

-- ---- 2 and 3

-- the refusal of the byte c at place i
abbrev byte_refusal : ℕ → ℕ → Refusal
byte_refusal c i = cond (is_stray c) (StrayByte i) (LetterPast i)

-- a is the refusal of the first foreign byte, the places counted from i on; or there is none, and a is what is left to be said
abbrev Met : ℕ → ℕ → List ℕ → Result (Unit {0}) Refusal → Result (Unit {0}) Refusal → Type 0
Met n i s later a =
    ((j : ℕ) × Least (Foreign n s) j × (a ≡ Err (byte_refusal (get_or s j 0) (i + j)))) ⊎ (((j : ℕ) → Foreign n s j → ⊥) × (a ≡ later))

first-place : (n c : ℕ) (s : List ℕ) → T (is_stray c || is_past n c) → Least (Foreign n (c ∷ s)) 0
first-place n c s h = record { here = (omega arith, h); none_below = λ j l. absurd (omega (arith, l)) }

-- one more byte in front, which is not foreign
in-front : (n i c : ℕ) (s : List ℕ) (later a : Result (Unit {0}) Refusal) → T (not (is_stray c || is_past n c)) → Met n (suc i) s later a → Met n i (c ∷ s) later a
in-front n i c s later a h (inl (j, l, e)) =
    inl (suc j, further, e ∙ ap (λ (x : ℕ). Err (byte_refusal (get_or s j 0) x)) (omega arith))
  where
    further : Least (Foreign n (c ∷ s)) (suc j)
    further = record { here = (omega (arith, l.here.0), l.here.1); none_below = λ k m x. below k m x }
      where
        below : (k : ℕ) → k < suc j → Foreign n (c ∷ s) k → ⊥
        below zero m x = both (is_stray c || is_past n c) x.1 h
        below (suc k) m x = l.none_below k (omega (arith, m)) (omega (arith, x.0), x.1)
in-front n i c s later a h (inr (none, e)) = inr (clean, e)
  where
    clean : (k : ℕ) → Foreign n (c ∷ s) k → ⊥
    clean zero x = both (is_stray c || is_past n c) x.1 h
    clean (suc k) x = none k (omega (arith, x.0), x.1)

by_byte : (n i c : ℕ) (s : List ℕ) (later rest : Result (Unit {0}) Refusal) → Met n (suc i) s later rest → (a b : Bool) → is_stray c ≡ a → is_past n c ≡ b
    → Met n i (c ∷ s) later (cond a (Err (StrayByte i)) (cond b (Err (LetterPast i)) rest))
by_byte n i c s later rest m true b e f = inl (0, first-place n c s (or_left (is_stray c) (is_past n c) (true→T e)), rw (e, add-zero) refl)
by_byte n i c s later rest m false true e f = inl (0, first-place n c s (or_right (is_stray c) (is_past n c) (true→T f)), rw (e, add-zero) refl)
by_byte n i c s later rest m false false e f = in-front n i c s later rest (false→T {a = is_stray c || is_past n c} (rw (e, f) refl)) m

foreign_met : (n i : ℕ) (s : List ℕ) (later : Result (Unit {0}) Refusal) → Met n i s later (foreign_answer n i s later)
unfolding foreign_answer
foreign_met n i [] later = inr (λ j x. omega (arith, x.0), refl)
foreign_met n i (c ∷ s) later = by_byte n i c s later (foreign_answer n (suc i) s later) (foreign_met n (suc i) s later) (is_stray c) (is_past n c) refl refl

module _ (n : ℕ) (s : List ℕ) (fit : SettingsFit n) (size : LengthFits s) where
  bytes-told : Told n s (foreign_answer n 0 s (sentence_answer s))
  bytes-told = elim (foreign_met n 0 s (sentence_answer s)) [
    | inl (j, l, e) ↦ subst (Told n s) (sym (e ∙ ap (λ (x : ℕ). Err (byte_refusal (get_or s j 0) x)) (zero-add j))) (foreign_at n s fit size l)
    | inr (clean, e) ↦ subst (Told n s) (sym e) (sentence-told n s fit size clean)
  ]

-- ---- the order

-- a number in its bounds, or not
data Within (P : Type 0) (test : Bool) : Type 0 where
  inside : P → test ≡ true → Within P test
  outside : (P → ⊥) → test ≡ false → Within P test

settings-within : (n : ℕ) → Within (SettingsFit n) (leb 1 n && leb n 7)
settings-within n = elim (decide (leb 1 n && leb n 7)) [
  | inl h ↦ inside
      record { least = leb→le 1 n (and_left (leb 1 n) (leb n 7) h); most = leb→le n 7 (and_right (leb 1 n) (leb n 7) h) }
      (T→true (leb 1 n && leb n 7) h)
  | inr h ↦ outside
      (λ f. both (leb 1 n && leb n 7) (and_in (leb 1 n) (leb n 7) (le→leb 1 n f.least) (le→leb n 7 f.most)) h)
      (T→false (leb 1 n && leb n 7) h)
]

length-within : (s : List ℕ) → Within (LengthFits s) (leb 1 (length s) && leb (length s) 255)
length-within s = let a = leb 1 (length s) in let b = leb (length s) 255 in elim (decide (leb 1 (length s) && leb (length s) 255)) [
  | inl h ↦ inside (leb→le 1 (length s) (and_left a b h), leb→le (length s) 255 (and_right a b h)) (T→true (a && b) h)
  | inr h ↦ outside (λ f. both (a && b) (and_in a b (le→leb 1 (length s) f.0) (le→leb (length s) 255 f.1)) h) (T→false (a && b) h)
]

pub formula_told : (n : ℕ) (s : List ℕ) → Told n s (formula_answer n s)
unfolding formula_answer
formula_told n s = elim (settings-within n) [
  | outside none e ↦ rw e (no_settings n s none)
  | inside fit e ↦ elim (length-within s) [
    | outside none f ↦ rw (e, f) (no_length n s fit none)
    | inside size f ↦ rw (e, f) (bytes-told n s fit size)
  ]
]

told_unique : (n : ℕ) (s : List ℕ) (a : Result (Unit {0}) Refusal) (b : Result (List ℕ) Refusal) → Told n s a → ReadsFormula n s b → a ≡ without_table b
told_unique n s (Ok _) (Ok t) p q = refl
told_unique n s (Ok _) (Err r) p q = first-clear q p
told_unique n s (Err r) (Ok t) p q = first-clear p (accepts_clear q)
told_unique n s (Err r) (Err x) p q = ap Err (first_unique p q)

-- the answer that `read` gives
pub read_computed : (n : ℕ) (s : List ℕ) (a : Result (List ℕ) Refusal) → ReadsFormula n s a → formula_answer n s ≡ without_table a
read_computed n s a p = told_unique n s (formula_answer n s) a (formula_told n s) p
