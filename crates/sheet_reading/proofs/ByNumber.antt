-- Each number of a sheet, exactly: 24, 22, 25, 23 and a formula's own. The number tells which fault a line has.
use mathlib.Core.Bool.{false}
use mathlib.Core.Path.{◌≡◌, refl, sym, ap, ◌∙◌, subst}
use mathlib.Core.Logic.{inl, inr, ◌↔◌}
use mathlib.Core.List.{List, [], ◌∷◌, ◌++◌, append_assoc, append-nil, map}
use Prim.Native.Nat.{ℕ, ◌≤◌, ◌<◌}
use native.Mathlib.Omega.{arith}
use lib.Dec.{leb, leb→le}
use lib.ListN.{length, take, drop}
use Rattle.ground.proofs.Bools.{T→true, T→false, decide, lt_or_ge}
use Rattle.refusal.specs.declared.Refusal.{Refusal}
use Rattle.refusal.specs.declared.Refusal.TheVariants.{Malformed, Twice, SheetLength, SheetSettings}
use Rattle.refusal.specs.Refusals.{number}
use Rattle.sheet_words.specs.Words.{split, newline}
use Rattle.sheet_words.proofs.Split.{joined}
use Rattle.sheet_words.specs.Steps.{fault}
use Rattle.sheet_rules.specs.Rules.{Rule}
use Rattle.sheet_rules.specs.Forms.{is_size}
use Rattle.sheet_reading.specs.Sheet.{Sheet}
use Rattle.sheet_reading.specs.Reading.{refused, sheet_meaning}
use Rattle.sheet_reading.proofs.OnePass.{size_step, first_line, after}
use Rattle.sheet_reading.specs.Grammar.{ended, size_text, rule_lines, rules_text, asked_text, sheet_text}
use Rattle.sheet_reading.specs.Place.{all_ended, first_lines, MalformedAt}
use Rattle.sheet_question.specs.Asked.{HeldLine, left_out, holding}
use Rattle.sheet_reading.specs.Faults.{Line, size_line, right_line, ask_line, held_in, lines_of, NamesTwice, FormulaRefused, SizeAbove}
use Rattle.sheet_reading.specs.Faults.{above, again, in-formula, LineFault, Reaches, FaultAt, RefusedSheet, too_long, malformed, at_fault}
use Rattle.sheet_reading.proofs.LineForms.{size-read, size-clear}
use Rattle.sheet_reading.proofs.LineByLine.{split-ended, first-split}
use Rattle.sheet_reading.proofs.Lines.{first-lines, same_lines}
use Rattle.sheet_reading.proofs.FaultLaws.{fault-number, above-only, again-only, formula_only}
use Rattle.sheet_reading.proofs.Place.{meaning-lines}
use Rattle.sheet_reading.proofs.RefusedExactly.{refused_exactly}

-- another thing that holds of the line
reaches_so : {s : List ℕ} {L : ℕ} {P Q : ℕ → List Line → Line → Type 0} → ((n : ℕ) (before : List Line) (line : Line) → P n before line → Q n before line)
    → Reaches s L P → Reaches s L Q
reaches_so g f = record {
  line_ends = f.line_ends;
  begun = f.begun;
  none_before = f.none_before;
  here = record {
    before = f.here.before;
    line = f.here.line;
    behind = f.here.behind;
    lines = f.here.lines;
    place = f.here.place;
    holds = g f.begun.sheet.size.settings f.here.before f.here.line f.here.holds;
  };
}

-- a refusal that is neither 22 nor 24 is a line's
fault_of : {s : List ℕ} {r : Refusal} {L : ℕ} → (number r ≡ 22 → ⊥) → (number r ≡ 24 → ⊥) → RefusedSheet s r L → (length s ≤ 32768) × FaultAt s L r
fault_of a b (too_long over) = absurd (b refl)
fault_of a b (malformed fits m none) = absurd (a refl)
fault_of a b (at_fault fits f) = (fits, f)

module _ (s : List ℕ) where
  -- 24
  pub length_exactly : (sheet_meaning s ≡ refused SheetLength 0) ↔ (32768 < length s)
  length_exactly = (λ e. over ((refused_exactly s SheetLength 0).0 e), λ h. (refused_exactly s SheetLength 0).1 (too_long h))
    where
      over : RefusedSheet s SheetLength 0 → 32768 < length s
      over (too_long h) = h
      over (at_fault fits f) = absurd (omega (arith, f.here.place))

  -- 22 at line L
  pub malformed_exactly : (L : ℕ) → (sheet_meaning s ≡ refused (Malformed L) L)
      ↔ ((length s ≤ 32768) × MalformedAt s L × ((K : ℕ) (r : Refusal) → K < L → FaultAt s K r → ⊥))
  malformed_exactly L = (λ e. there refl ((refused_exactly s (Malformed L) L).0 e), λ (fits, m, none). (refused_exactly s (Malformed L) L).1 (malformed fits m none))
    where
      there : {k l : ℕ} → k ≡ l → RefusedSheet s (Malformed k) l → (length s ≤ 32768) × MalformedAt s l × ((K : ℕ) (r : Refusal) → K < l → FaultAt s K r → ⊥)
      there e (malformed fits m none) = (fits, m, none)
      there {l = l} e (at_fault fits f) = absurd (elim (fault-number f.begun.sheet.size.settings l f.here.before f.here.holds) [
        | inl h ↦ omega (arith, h)
        | inr (inl h) ↦ omega (arith, h)
        | inr (inr h) ↦ omega (arith, h)
      ])

  -- 23 at line L
  pub twice_exactly : (L : ℕ) → (sheet_meaning s ≡ refused (Twice L) L) ↔ ((length s ≤ 32768) × Reaches s L (λ n before line. NamesTwice before line))
  twice_exactly L = (
    λ e. let (fits, f) = fault_of (λ z. omega (arith, z)) (λ z. omega (arith, z)) ((refused_exactly s (Twice L) L).0 e) in
        (fits, reaches_so (λ n before line x. again-only n L before x refl) f),
    λ (fits, f). (refused_exactly s (Twice L) L).1 (at_fault fits (reaches_so (λ n before line x. again x) f)),
  )

  -- a formula's number, with its line
  pub formula_exactly : (r : Refusal) (L : ℕ) → number r ≤ 5
      → (sheet_meaning s ≡ refused r L) ↔ ((length s ≤ 32768) × Reaches s L (λ n before line. (NamesTwice before line → ⊥) × FormulaRefused n line r))
  formula_exactly r L small = (
    λ e. let (fits, f) = fault_of (λ z. omega (arith, z, small)) (λ z. omega (arith, z, small)) ((refused_exactly s r L).0 e) in
        (fits, reaches_so (λ n before line x. formula_only n L before x small) f),
    λ (fits, f). (refused_exactly s r L).1 (at_fault fits (reaches_so (λ n before line x. in-formula x.0 x.1) f)),
  )

-- ---- 25

-- what holds of each line
abbrev Every : (Line → Type 0) → List Line → Type 0
Every P [] = Unit
Every P (line ∷ more) = P line × Every P more

module _ (w : Sheet) where
  -- only the first line has a size, the sheet's
  abbrev OwnSize : Line → Type 0
  OwnSize line = SizeAbove line → 5 < w.size.settings

  rights_own : (rules : List Rule) (more : List Line) → Every OwnSize more → Every OwnSize (map right_line rules ++ more)
  rights_own [] more h = h
  rights_own (r ∷ rules) more h = (λ x. absurd x, rights_own rules more h)

  asks-own : (Fs : List (List ℕ)) → Every OwnSize (map ask_line Fs)
  asks-own [] = tt
  asks-own (F ∷ Fs) = (λ x. absurd x, asks-own Fs)

  held-own : (x : HeldLine) (more : List Line) → Every OwnSize more → Every OwnSize (held_in x ++ more)
  unfolding held_in
  held-own left_out more h = h
  held-own (holding names) more h = (λ x. absurd x, h)

  lines-own : Every OwnSize (lines_of w)
  unfolding lines_of
  lines-own =
      (λ x. x, rights_own w.rules _ (λ x. absurd x, (λ x. absurd x, held-own w.asked.held _ (λ x. absurd x, asks-own w.asked.asks))))

  own-there : (before : List Line) (line : Line) (behind : List Line) → Every OwnSize (before ++ line ∷ behind) → OwnSize line
  own-there [] line behind h = h.0
  own-there (x ∷ before) line behind h = own-there before line behind h.1

  size-fault : 5 < w.size.settings → LineFault w 1 SheetSettings
  unfolding lines_of
  size-fault h = record { before = []; line = size_line w.size; behind = _; lines = refl; place = refl; holds = above h }

-- 25: the first line is `size N M` with N above 5, and nothing else is looked at
pub settings_exactly : (s : List ℕ) (L : ℕ) → (sheet_meaning s ≡ refused SheetSettings L)
    ↔ ((L ≡ 1) × (length s ≤ 32768)
    × ((n : ℕ) × (m : ℕ) × (rest : List ℕ) × (5 < n) × (n ≤ 7) × (1 ≤ m) × (m ≤ 8) × (s ≡ ended (size_text n m) ++ rest)))
unfolding first_lines all_ended sheet_text rules_text size_step
settings_exactly s L = (there, back)
  where
    there : sheet_meaning s ≡ refused SheetSettings L
        → (L ≡ 1) × (length s ≤ 32768) × ((n : ℕ) × (m : ℕ) × (rest : List ℕ) × (5 < n) × (n ≤ 7) × (1 ≤ m) × (m ≤ 8) × (s ≡ ended (size_text n m) ++ rest))
    there e =
        let (fits, f) = fault_of (λ z. omega (arith, z)) (λ z. omega (arith, z)) ((refused_exactly s SheetSettings L).0 e) in
        let w : Sheet = f.begun.sheet in
        let high : 5 < w.size.settings =
        own-there w f.here.before f.here.line f.here.behind (subst (Every (OwnSize w)) f.here.lines (lines-own w))
        (above-only w.size.settings L f.here.before f.here.holds refl) in
        let first : L ≡ 1 = elim (lt_or_ge 1 L) [ inl l ↦ absurd (f.none_before 1 SheetSettings l (size-fault w high)) | inr l ↦ omega (arith, l, f.here.place) ] in
        let text : List ℕ = size_text w.size.settings w.size.posts in
        let same : text ∷ [] ≡ take 1 (split newline s) =
        sym (ap (take 1)
        (ap (split newline) (append_assoc (ended text) (rule_lines w.rules) (asked_text w.asked))
        ∙ split-ended text (rule_lines w.rules ++ asked_text w.asked) (size-clear w.size.settings w.size.posts)))
        ∙ ap (λ (t : List ℕ). take 1 (split newline t)) f.begun.written
        ∙ ap (λ (K : ℕ). take 1 (split newline (all_ended (take K (split newline s)) ++ f.begun.rest))) first
        ∙ same_lines s f.begun.rest 1 (omega (arith, f.line_ends)) in
        let rest : List ℕ = joined newline (drop 1 (split newline s)) in (
          first,
          fits,
          (
            w.size.settings,
            w.size.posts,
            rest,
            high,
            f.begun.well_formed.ruled.settings_most,
            f.begun.well_formed.ruled.posts_least,
            f.begun.well_formed.ruled.posts_most,
            first-lines s 1 (omega (arith, f.line_ends, first))
                ∙ ap (λ (p : List (List ℕ)). all_ended p ++ rest) (sym same) ∙ ap (λ (t : List ℕ). t ++ rest) (append-nil (ended text)),
          ),
        )

    back : (L ≡ 1) × (length s ≤ 32768) × ((n : ℕ) × (m : ℕ) × (rest : List ℕ) × (5 < n) × (n ≤ 7) × (1 ≤ m) × (m ≤ 8) × (s ≡ ended (size_text n m) ++ rest))
        → sheet_meaning s ≡ refused SheetSettings L
    back (one, fits, (n, m, rest, high, most, least, posts, written)) =
        let form = size-read n m (omega arith, most, least, posts) in
        let over : leb n 5 ≡ false = elim (decide (leb n 5)) [ inl h ↦ absurd (omega (arith, high, leb→le n 5 h)) | inr h ↦ T→false (leb n 5) h ] in
        let refuses : size_step (size_text n m) ≡ fault SheetSettings = rw (T→true (is_size (size_text n m)) form.0, form.1, over) refl in
        meaning-lines s fits
        ∙ ap (λ (t : List ℕ). first_line (split newline t)) written
        ∙ first-split (size_text n m) rest (size-clear n m)
        ∙ ap (after 1 (split newline rest)) refuses
        ∙ ap (refused SheetSettings) (sym one)
