-- From what the code found to what `read` may answer: one law for each return.
use mathlib.Core.Path.{◌≡◌}
use mathlib.Core.List.{List}
use mathlib.Core.Logic.{◌⊎◌, inl, inr}
use mathlib.Core.Bool.{not, ◌&&◌}
use Rattle.std.specs.Prelude.{Ok, Err}
use Prim.Native.Nat.{ℕ, ◌≤◌}
use native.Mathlib.Omega.{arith}
use lib.Dec.{T}
use lib.ListN.{length, get_or}
use Rattle.ground.specs.Bounds.{SettingsFit}
use Rattle.ground.specs.Search.{Least}
use Rattle.ground.proofs.Bools.{decide, T→false}
use Rattle.refusal.specs.declared.Refusal.{Refusal}
use Rattle.refusal.specs.declared.Refusal.TheVariants.{Settings, FormulaLength, LetterPast, NotSentence}
use Rattle.refusal.specs.Order.{First}
use Rattle.refusal.proofs.OrderLaws.{first-when, first_past, first-lowest, first-later-lowest, first_as}
use Rattle.formula_grammar.specs.Grammar.{sum}
use Rattle.formula_grammar.specs.Signs.{is_stray, is_past, Foreign, foreign_byte}
use Rattle.formula_table.specs.Two.{WordsOf, BytesOf, has}
use Rattle.formula_grammar.specs.Automaton.{wants, breaks, verdict, Parsed}
use Rattle.formula_grammar.specs.Scans.{Scans}
use Rattle.formula_grammar.proofs.ScanLaws.{not_both}
use Rattle.formula_grammar.proofs.PartLaws.{sum-whole}
use Rattle.formula_table.specs.declared.Truths.{Truths}
use Rattle.formula_table.proofs.TwoWords.{below, table_of}
use Rattle.formula.specs.Read.{LengthFits, formula_rows, ReadsFormula}
use Rattle.formula.proofs.Broken.{broken-place}

abbrev CleanText : ℕ → List ℕ → Type 0
CleanText n s = (j : ℕ) → Foreign n s j → ⊥

pub no_settings : (n : ℕ) (s : List ℕ) → (SettingsFit n → ⊥) → First (formula_rows n s) Settings
no_settings n s none = first-when none

pub no_length : (n : ℕ) (s : List ℕ) → SettingsFit n → (LengthFits s → ⊥) → First (formula_rows n s) FormulaLength
no_length n s fit none = first_past fit (first-when none)

past-byte : (n : ℕ) (s : List ℕ) (i : ℕ) → T (is_past n (get_or s i 0)) → LetterPast i ≡ foreign_byte s i
past-byte n s i h = rw (T→false (is_stray (get_or s i 0)) (not_stray (decide (is_stray (get_or s i 0)))))
  where
    not_stray : T (is_stray (get_or s i 0)) ⊎ T (not (is_stray (get_or s i 0))) → T (not (is_stray (get_or s i 0)))
    not_stray (inl k) = absurd (not_both n (get_or s i 0) k h)
    not_stray (inr k) = k

module _ (n : ℕ) (s : List ℕ) (fit : SettingsFit n) (size : LengthFits s) where
  -- the lowest place of 2 or 3
  pub foreign_at : {i : ℕ} → Least (Foreign n s) i → First (formula_rows n s) (foreign_byte s i)
  foreign_at l = first_past fit (first_past size (first-lowest l))

  pub past-at : (i : ℕ) → Least (Foreign n s) i → T (is_past n (get_or s i 0)) → First (formula_rows n s) (LetterPast i)
  past-at i l h = first_as (past-byte n s i h) (foreign_at l)

  -- what the first look over the text refuses
  pub foreign : {r : Refusal} → Scans n s (Err r) → First (formula_rows n s) r
  foreign (i, l, e) = first_as e (foreign_at l)

  module _ (clean : CleanText n s) where
    pub broken : (x : ℕ) → verdict (wants 0) 0 s ≡ breaks x → First (formula_rows n s) (NotSentence x)
    broken x v = first_past fit (first_past size (first-later-lowest clean (first-lowest (broken-place s x v))))

    pub whole : {w u : Truths} {next : ℕ} {t : List ℕ} → Parsed sum s 0 w next → length s ≤ next → WordsOf u (λ v. has w v && below n v) → BytesOf u t
        → ReadsFormula n s (Ok t)
    whole {w} p l h b = record {
      settings = fit;
      size = size;
      clean = clean;
      parsed = record { sentence = p.sentence; written = sum-whole p l };
      table = table_of w (omega arith) p.holds h b;
    }
