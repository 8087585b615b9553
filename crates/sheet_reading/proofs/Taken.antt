-- What a sheet that is taken states is well formed, and written out it is the sheet again: each of its lines adds its text, and there is nothing
-- after the last.
use mathlib.Core.Path.{◌≡◌, sym, ◌∙◌, subst, subst₂}
use mathlib.Core.List.{List, [], ◌∷◌, ◌++◌, append_assoc, append-nil}
use mathlib.Core.Bool.{Bool, true, false, cond}
use Prim.Native.Nat.{ℕ, suc}
use lib.Dec.{ltb}
use lib.ListN.{length}
use Rattle.refusal.specs.declared.Refusal.TheVariants.{SheetLength}
use Rattle.sheet_words.specs.Words.{split, newline}
use Rattle.sheet_words.proofs.Split.{joined, AllClear, joined_split, split-clear}
use Rattle.sheet_words.specs.Steps.{fault, next}
use Rattle.sheet_reading.specs.Sheet.{Sheet}
use Rattle.sheet_reading.specs.Reading.{Meaning, refused, stated, sheet_meaning}
use Rattle.sheet_reading.proofs.OnePass.{SheetStep, size_step, step, ending, lines, first_line, after, lines_after, first-after}
use Rattle.sheet_question.specs.declared.desk.Due.{Due}
use Rattle.sheet_question.specs.declared.desk.Due.TheVariants.{Team, Known, Held, Make, Asks}
use Rattle.sheet_reading.specs.Grammar.{ended, sheet_text, WellFormed}
use Rattle.sheet_reading.specs.Place.{IsSheet}
use Rattle.sheet_reading.proofs.TwoParts.{sheet-meaning}
use Rattle.sheet_reading.proofs.LineByLine.{in_line}
use Rattle.sheet_reading.proofs.SoFar.{so_far, WellSoFar, whole, Good}
use Rattle.sheet_reading.proofs.GoodLines.{size_good, step_good}

-- what is stated is well formed, and its text is s
abbrev Written : List ℕ → Meaning → Type 0
Written s (refused r line) = Unit
Written s (stated w) = WellFormed w × (sheet_text w ≡ s)

-- after the last byte 10
ending-written : (due : Due) (v : Sheet) (rest : List ℕ) (L : ℕ) → WellSoFar due v → Written (so_far due v ++ rest) (ending due v rest L)
ending-written Team v rest L h = tt
ending-written Known v rest L h = tt
ending-written Held v rest L h = tt
ending-written Make v rest L h = tt
ending-written Asks v [] L h = (h, whole v ∙ sym (append-nil (so_far Asks v)))
ending-written Asks v (c ∷ rest) L h = tt

-- a line, and then the others
regroup : (s line rest : List ℕ) → (s ++ ended line) ++ rest ≡ s ++ (line ++ newline ∷ rest)
unfolding ended
regroup s line rest = simp append_assoc

after-written : (s : List ℕ) (st : SheetStep) (L : ℕ) (pieces : List (List ℕ)) → Good L s st →
    ((d : Due) (v : Sheet) → WellSoFar d v → Written (so_far d v ++ joined newline pieces) (lines (suc L) d v pieces)) →
    Written (s ++ joined newline pieces) (after L pieces st)
after-written s (fault r) L pieces g f = tt
after-written s (next (d, v)) L pieces g f = subst (λ (x : List ℕ). Written (x ++ joined newline pieces) (lines (suc L) d v pieces)) g.1 (f d v g.0)

lines-written : (pieces : List (List ℕ)) (L : ℕ) (due : Due) (v : Sheet) → AllClear newline pieces → WellSoFar due v → Written (so_far due v ++ joined newline pieces) (lines L due v pieces)
unfolding lines
lines-written [] L due v c h = tt
lines-written (rest ∷ []) L due v c h =
    subst (λ (x : List ℕ). Written (so_far due v ++ x) (ending due v rest L)) (sym (append-nil rest)) (ending-written due v rest L h)
lines-written (line ∷ another ∷ more) L due v c h =
    subst₂ Written (regroup (so_far due v) line (joined newline (another ∷ more))) (sym (lines_after L due v line another more))
    (after-written (so_far due v ++ ended line) (step L due v line) L (another ∷ more) (step_good L due v line h (in_line line c.0))
    (λ d u k. lines-written (another ∷ more) (suc L) d u c.1 k))

first-written : (pieces : List (List ℕ)) → AllClear newline pieces → Written (joined newline pieces) (first_line pieces)
unfolding first_line
first-written [] c = tt
first-written (rest ∷ []) c = tt
first-written (line ∷ another ∷ more) c =
    subst₂ Written (regroup [] line (joined newline (another ∷ more))) (sym (first-after line another more))
    (after-written (ended line) (size_step line) 1 (another ∷ more) (size_good line) (λ d u k. lines-written (another ∷ more) 2 d u c.1 k))

meaning-written : (s : List ℕ) → Written s (sheet_meaning s)
meaning-written s = subst (Written s) (sym (sheet-meaning s)) (by_length (ltb 32768 (length s)))
  where
    by_length : (over : Bool) → Written s (cond over (refused SheetLength 0) (first_line (split newline s)))
    by_length true = tt
    by_length false = subst (λ (x : List ℕ). Written x (first_line (split newline s))) (joined_split newline s) (first-written (split newline s) (split-clear newline s))

-- what is stated is well formed, and its text is the sheet
pub stated-written : (s : List ℕ) (w : Sheet) → sheet_meaning s ≡ stated w → WellFormed w × (sheet_text w ≡ s)
stated-written s w e = subst (Written s) e (meaning-written s)

-- ONLY A WELL-FORMED SHEET IS TAKEN
pub taken-only_well_formed : (s : List ℕ) (w : Sheet) → sheet_meaning s ≡ stated w → IsSheet s
taken-only_well_formed s w e = let t = stated-written s w e in record { sheet = w; well_formed = t.0; written = t.1 }
