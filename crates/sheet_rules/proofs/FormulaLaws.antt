-- A formula's refusal has a number of at most 5: the computed answer is one of five.
use mathlib.Core.Path.{◌≡◌, subst}
use mathlib.Core.List.{List, [], ◌∷◌}
use mathlib.Core.Bool.{Bool, true, false, ◌&&◌, cond}
use Prim.Native.Nat.{ℕ, suc, ◌≤◌}
use native.Mathlib.Omega.{arith}
use lib.Dec.{leb}
use lib.ListN.{length}
use Rattle.refusal.specs.declared.Refusal.{Refusal}
use Rattle.refusal.specs.declared.Refusal.TheVariants.{Settings, FormulaLength, StrayByte, LetterPast, NotSentence}
use Rattle.refusal.specs.Refusals.{number}
use Rattle.formula_grammar.specs.Signs.{is_stray, is_past}
use Rattle.formula_grammar.specs.Automaton.{Verdict, whole, breaks, wants, verdict}
use Rattle.std.proofs.Common.{Result, Ok, Err}
use Rattle.formula.specs.Computed.{sentence_answer, foreign_answer, formula_answer}

abbrev Low : Result (Unit {0}) Refusal → Type 0
Low (Ok x) = Unit
Low (Err r) = number r ≤ 5

by_cond : (b : Bool) (x y : Result (Unit {0}) Refusal) → Low x → Low y → Low (cond b x y)
by_cond true x y h k = h
by_cond false x y h k = k

sentence-low : (s : List ℕ) → Low (sentence_answer s)
unfolding sentence_answer
sentence-low s = by_verdict (verdict (wants 0) 0 s)
  where
    by_verdict : (v : Verdict) → Low (elim v as (λ x. Result (Unit {0}) Refusal) [ whole ↦ Ok tt | breaks i ↦ Err (NotSentence i) ])
    by_verdict whole = tt
    by_verdict (breaks i) = omega arith

foreign_low : (n i : ℕ) (s : List ℕ) (later : Result (Unit {0}) Refusal) → Low later → Low (foreign_answer n i s later)
unfolding foreign_answer
foreign_low n i [] later h = h
foreign_low n i (c ∷ s) later h =
    let more : Result (Unit {0}) Refusal = foreign_answer n (suc i) s later in
    by_cond (is_stray c) (Err (StrayByte i)) (cond (is_past n c) (Err (LetterPast i)) more) (omega arith)
    (by_cond (is_past n c) (Err (LetterPast i)) more (omega arith) (foreign_low n (suc i) s later h))

answer-low : (n : ℕ) (s : List ℕ) → Low (formula_answer n s)
unfolding formula_answer
answer-low n s =
    let later : Result (Unit {0}) Refusal = foreign_answer n 0 s (sentence_answer s) in
    let fits : Bool = leb 1 (length s) && leb (length s) 255 in
    by_cond (leb 1 n && leb n 7) (cond fits later (Err FormulaLength)) (Err Settings)
    (by_cond fits later (Err FormulaLength) (foreign_low n 0 s (sentence_answer s) (sentence-low s)) (omega arith)) (omega arith)

pub formula_number : (n : ℕ) (s : List ℕ) (r : Refusal) → formula_answer n s ≡ Err r → number r ≤ 5
formula_number n s r e = subst Low e (answer-low n s)
