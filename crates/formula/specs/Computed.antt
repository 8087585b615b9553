-- What `read` answers, computed, but for the table of a formula that is taken. proofs/Computed shows that it is the answer that `ReadsFormula` allows.
use Rattle.std.specs.Prelude.{◌&&◌, cond, List, [], ◌∷◌, ℕ, suc, leb, length, Result, Ok, Err}
use Rattle.refusal.specs.declared.Refusal.{Refusal}
use Rattle.refusal.specs.declared.Refusal.TheVariants.{Settings, FormulaLength, StrayByte, LetterPast, NotSentence}
use Rattle.formula_grammar.specs.Signs.{is_stray, is_past}
use Rattle.formula_grammar.specs.Automaton.{wants, verdict, whole, breaks}

-- 4, where the text is no sentence
unfoldable pub sentence_answer : List ℕ → Result (Unit {0}) Refusal
sentence_answer s = elim (verdict (wants 0) 0 s) [ whole ↦ Ok tt | breaks i ↦ Err (NotSentence i) ]

-- 2 or 3, by the first byte that no formula of n settings has, of those from place i on; or else what is left to be said
unfoldable pub foreign_answer : ℕ → ℕ → List ℕ → Result (Unit {0}) Refusal → Result (Unit {0}) Refusal
foreign_answer n i [] later = later
foreign_answer n i (c ∷ s) later =
    cond (is_stray c) (Err (StrayByte i)) (cond (is_past n c) (Err (LetterPast i)) (foreign_answer n (suc i) s later))

-- "5, 1, then the lowest place of 2 or 3, then 4"
unfoldable pub formula_answer : ℕ → List ℕ → Result (Unit {0}) Refusal
formula_answer n s =
    cond
    (leb 1 n && leb n 7)
    (cond (leb 1 (length s) && leb (length s) 255) (foreign_answer n 0 s (sentence_answer s)) (Err FormulaLength))
    (Err Settings)

-- an answer of `read` without the table
abbrev pub without_table : Result (List ℕ) Refusal → Result (Unit {0}) Refusal
without_table (Ok t) = Ok tt
without_table (Err r) = Err r
