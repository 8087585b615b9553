-- A text that is taken is written as the grammar says: each of its lines is passed over, or is the words of the record that it gives. And what is not refused
-- has passed each test.
use mathlib.Core.Path.{◌≡◌, refl, sym, ap, ◌∙◌, subst}
use mathlib.Core.Bool.{Bool, true, false, ◌||◌, cond}
use mathlib.Core.List.{List, [], ◌∷◌, ◌++◌, append_assoc, append-nil}
use Prim.Native.Nat.{ℕ, suc}
use Rattle.std.specs.Prelude.{Option, Some, None}
use Rattle.ground.proofs.Bools.{true→T}
use Rattle.refusal.specs.declared.Refusal.{Refusal}
use Rattle.print_answer.specs.Listed.{line}
use Rattle.sheet_words.specs.Words.{split, newline, passed_over}
use Rattle.sheet_words.proofs.Split.{Clear, AllClear, joined, split_joined}
use Rattle.plancheck_text.proofs.PlanTexts.{rest_empty}
use Rattle.station_text.specs.Records.{record_text}
use Rattle.station_text.specs.Lines.{gives_record, is_line, line_record}
use Rattle.station_text.specs.Meaning.{Meaning, gives, refused_if, unless_stray, stray_line, lines_bytes}
use Rattle.station_text.specs.Grammar.{ShiftTextOf, ended, passing, saying}
use Rattle.station_text.proofs.LineLaws.{line_by, record_by}
use Rattle.station_text.proofs.RecordLines.{record_taken, given_said}
use Rattle.station_text.proofs.WrittenText.{passed_none}

-- ---- one line, before a text that is written so

module _ (l : List ℕ) (clear : Clear newline l) {s b : List ℕ} (p : ShiftTextOf s b) where
  passed_only : passed_over l ≡ true → ShiftTextOf (line l ++ s) (line_record l ++ b)
  passed_only e =
      subst (λ (own : List ℕ). ShiftTextOf (line l ++ s) (own ++ b)) (sym (record_by l false (passed_none l (true→T e))))
      (passing l (true→T e) (ap (split newline) (sym (append-nil l)) ∙ split_joined newline l [] clear tt) p)

  given-only : gives_record l ≡ true → ShiftTextOf (line l ++ s) (line_record l ++ b)
  given-only e =
      let x = given_said l e in
      let t = record_taken x.act_byte x.seen x.is_record_case in
      subst (λ (k : List ℕ). ShiftTextOf (line k ++ s) (line_record k ++ b)) (sym x.text)
      (subst (λ (own : List ℕ). ShiftTextOf (line (record_text x.act_byte x.seen) ++ s) (own ++ b)) (sym t.is_record_case)
      (saying x.act_byte x.seen x.is_record_case p))

  line-only : is_line l ≡ true → ShiftTextOf (line l ++ s) (line_record l ++ b)
  line-only e = by_test (passed_over l) (gives_record l) refl refl (sym (line_by l (passed_over l) (gives_record l) refl refl) ∙ e)
    where
      by_test : (x y : Bool) → passed_over l ≡ x → gives_record l ≡ y → (x || y) ≡ true → ShiftTextOf (line l ++ s) (line_record l ++ b)
      by_test true y d f e = passed_only d
      by_test false true d f e = given-only f
      by_test false false d f e = absurd cc

-- ---- all lines

-- one line, where none is stray
fine_line : (L : ℕ) (l another : List ℕ) (more : List (List ℕ)) → stray_line L (l ∷ another ∷ more) ≡ None
    → (is_line l ≡ true) × (stray_line (suc L) (another ∷ more) ≡ None)
unfolding stray_line
fine_line L l another more e = by_test (is_line l) (stray_line (suc L) (another ∷ more)) e
  where
    by_test : (c : Bool) (n : Option ℕ) → cond c n (Some L) ≡ None → (c ≡ true) × (n ≡ None)
    by_test true n e = (refl, e)
    by_test false n e = absurd cc

pub lines-only : (L : ℕ) (pieces : List (List ℕ)) → AllClear newline pieces → stray_line L pieces ≡ None
    → ShiftTextOf (joined newline pieces) (lines_bytes pieces)
unfolding stray_line lines_bytes
lines-only L [] clear e = ended
lines-only L (rest ∷ []) clear e = subst (λ (t : List ℕ). ShiftTextOf (t ++ []) []) (sym (rest_empty L rest e)) ended
lines-only L (l ∷ another ∷ more) clear e =
    let x = fine_line L l another more e in
    subst (λ (t : List ℕ). ShiftTextOf t (line_record l ++ lines_bytes (another ∷ more))) (append_assoc l (10 ∷ []) (joined newline (another ∷ more)))
    (line-only l clear.0 (lines-only (suc L) (another ∷ more) clear.1 x.1) x.0)

-- ---- what is not refused

pub not-refused : (t : Bool) (r : Refusal) (later : Meaning) {b : List ℕ} → refused_if t r later ≡ gives b → (t ≡ false) × (later ≡ gives b)
unfolding refused_if
not-refused true r later e = absurd cc
not-refused false r later e = (refl, e)

pub no_stray : (n : Option ℕ) (later : Meaning) {b : List ℕ} → unless_stray n later ≡ gives b → (n ≡ None) × (later ≡ gives b)
unfolding unless_stray
no_stray None later e = (refl, e)
no_stray (Some L) later e = absurd cc
