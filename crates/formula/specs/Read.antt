-- What `read` answers, for n settings and the text s.
use Rattle.std.specs.Prelude.{◌≡◌, List, [], ◌∷◌, ◌⊎◌, ℕ, suc, ◌≤◌, ◌<◌, length, take, Result, Ok, Err}
use Rattle.ground.specs.Bounds.{SettingsFit}
use Rattle.ground.specs.Table.{TableOf}
use Rattle.refusal.specs.declared.Refusal.{Refusal}
use Rattle.refusal.specs.declared.Refusal.TheVariants.{Settings, FormulaLength, NotSentence}
use Rattle.refusal.specs.Order.{Row, when, lowest, First}
use Rattle.formula_grammar.specs.Grammar.{meaning, IsSentence, Begins}
use Rattle.formula_grammar.specs.Signs.{Foreign, foreign_byte}

-- "Formula: 1 to 255 bytes"
abbrev pub LengthFits : List ℕ → Type 0
LengthFits s = (1 ≤ length s) × (length s ≤ 255)

-- "the first i + 1 bytes begin no sentence of any length"
abbrev pub Breaks : List ℕ → ℕ → Type 0
Breaks s i = (i < length s) × (Begins (take (suc i) s) → ⊥)

-- 4, "not a sentence", and its places: "least i where the first i + 1 bytes begin no sentence of any length; else the length"
abbrev pub NoSentence : List ℕ → ℕ → Type 0
NoSentence s i = (IsSentence s → ⊥) × (Breaks s i ⊎ (i ≡ length s))

-- Order: "5, 1, then the lowest place of 2 or 3, then 4"
abbrev pub formula_rows : ℕ → List ℕ → List Row
formula_rows n s =
    when (SettingsFit n → ⊥) Settings
    ∷ when (LengthFits s → ⊥) FormulaLength
    ∷ lowest (foreign_byte s) (Foreign n s)
    ∷ lowest NotSentence (NoSentence s)
    ∷ []

-- the text is taken, and t is its table
pub record Accepts (n : ℕ) (s : List ℕ) (t : List ℕ) : Type 0 where
  pub settings : SettingsFit n
  pub size : LengthFits s
  pub clean : (j : ℕ) → Foreign n s j → ⊥
  pub parsed : IsSentence s
  pub table : TableOf n (meaning parsed.sentence) t

-- what `read` gives: the table, or the refusal
abbrev pub ReadsFormula : ℕ → List ℕ → Result (List ℕ) Refusal → Type 0
ReadsFormula n s (Ok t) = Accepts n s t
ReadsFormula n s (Err r) = First (formula_rows n s) r
