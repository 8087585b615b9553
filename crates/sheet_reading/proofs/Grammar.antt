-- A well-formed sheet is taken as what it is, or refused with a refusal that is not 22: what is left are 23, 24, 25 and a formula's refusal.
use mathlib.Core.Path.{◌≡◌, refl, sym, ap, subst}
use mathlib.Core.Logic.{◌⊎◌, inl, inr}
use mathlib.Core.Bool.{Bool, true, false, cond}
use Prim.Native.Nat.{ℕ}
use native.Mathlib.Omega.{arith}
use lib.Dec.{ltb}
use lib.ListN.{length}
use Rattle.refusal.specs.declared.Refusal.{Refusal}
use Rattle.refusal.specs.declared.Refusal.TheVariants.{SheetLength}
use Rattle.refusal.specs.Refusals.{number}
use Rattle.sheet_words.specs.Words.{split, newline}
use Rattle.sheet_reading.specs.Sheet.{Sheet}
use Rattle.sheet_reading.specs.Reading.{Meaning, refused, stated, sheet_meaning}
use Rattle.sheet_reading.proofs.OnePass.{first_line}
use Rattle.sheet_reading.specs.Grammar.{sheet_text, WellFormed}
use Rattle.sheet_reading.proofs.TwoParts.{sheet-meaning}
use Rattle.sheet_reading.proofs.FaultLaws.{first_formed}
use Rattle.sheet_reading.proofs.Judged.{Judged, lines-judged}

-- what a well-formed sheet may come to
abbrev pub Fine : Sheet → Meaning → Type 0
Fine w (refused r line) = number r ≡ 22 → ⊥
Fine w (stated v) = v ≡ w

pub lines_fine : (w : Sheet) → WellFormed w → Fine w (first_line (split newline (sheet_text w)))
lines_fine w h = by_outcome (first_line (split newline (sheet_text w))) (lines-judged w h)
  where
    by_outcome : (o : Meaning) → Judged w o → Fine w o
    by_outcome (refused r line) f = first_formed f
    by_outcome (stated v) f = f.0

-- ---- the theorem, and what it says of 22

fine_out : (w : Sheet) (o : Meaning) → Fine w o → (o ≡ stated w) ⊎ ((r : Refusal) × (p : ℕ) × (o ≡ refused r p) × (number r ≡ 22 → ⊥))
fine_out w (refused r p) h = inr (r, p, refl, h)
fine_out w (stated v) h = inl (ap stated h)

meaning_fine : (w : Sheet) → WellFormed w → Fine w (sheet_meaning (sheet_text w))
meaning_fine w h = subst (Fine w) (sym (sheet-meaning (sheet_text w))) (by_length (ltb 32768 (length (sheet_text w))))
  where
    by_length : (over : Bool) → Fine w (cond over (refused SheetLength 0) (first_line (split newline (sheet_text w))))
    by_length true = λ e. omega (arith, e)
    by_length false = lines_fine w h

pub well_formed_read : (w : Sheet) → WellFormed w
    → (sheet_meaning (sheet_text w) ≡ stated w) ⊎ ((r : Refusal) × (p : ℕ) × (sheet_meaning (sheet_text w) ≡ refused r p) × (number r ≡ 22 → ⊥))
well_formed_read w h = fine_out w (sheet_meaning (sheet_text w)) (meaning_fine w h)

-- A WELL-FORMED SHEET IS NEVER 22
pub twenty_two-never : (w : Sheet) → WellFormed w → (r : Refusal) (p : ℕ) → number r ≡ 22 → sheet_meaning (sheet_text w) ≡ refused r p → ⊥
twenty_two-never w h r p t e = subst (Fine w) e (meaning_fine w h) t
