-- A sheet is refused exactly as the grammar tells: a well-formed sheet that begins with its lines up to the refused one is refused there too, with the
-- same refusal; and a sheet that begins as such a one does has the same lines up to there.
use mathlib.Core.Path.{◌≡◌, refl, sym, ap, ◌∙◌, subst}
use mathlib.Core.Logic.{inl, inr, ◌↔◌}
use mathlib.Core.List.{List, [], ◌++◌}
use Prim.Native.Nat.{ℕ, suc, ◌≤◌, ◌<◌}
use native.Mathlib.Omega.{arith}
use lib.ListN.{length, take, drop}
use Rattle.ground.proofs.Bools.{lt_or_ge}
use Rattle.refusal.specs.declared.Refusal.{Refusal}
use Rattle.refusal.specs.Refusals.{number}
use Rattle.sheet_words.specs.Words.{split, newline}
use Rattle.sheet_words.proofs.Split.{joined}
use Rattle.sheet_reading.specs.Sheet.{Sheet}
use Rattle.sheet_reading.specs.Reading.{Meaning, refused, stated, sheet_meaning}
use Rattle.sheet_reading.proofs.OnePass.{first_line}
use Rattle.sheet_reading.specs.Grammar.{sheet_text, WellFormed}
use Rattle.sheet_reading.specs.Place.{BeginsSheet, all_ended, first_lines}
use Rattle.sheet_reading.specs.Faults.{LineFault, FaultAt, RefusedSheet, too_long, malformed, at_fault}
use Rattle.sheet_reading.proofs.FaultLaws.{FirstFault, first_formed, first_one}
use Rattle.sheet_reading.proofs.Judged.{Judged, lines-judged}
use Rattle.sheet_reading.proofs.Lines.{first-lines, same_lines}
use Rattle.sheet_reading.proofs.Taken.{stated-written}
use Rattle.sheet_reading.proofs.RefusedAt.{Placed, sheet_placed}
use Rattle.sheet_reading.proofs.Place.{RefusedAt, refusal, meaning-long, meaning-lines, malformed-line, malformed-refused}

-- ---- a well-formed sheet, but for its length

module _ (w : Sheet) (h : WellFormed w) where
  -- its first fault is its refusal
  well_refused : (L : ℕ) (r : Refusal) → FirstFault w L r → first_line (split newline (sheet_text w)) ≡ refused r L
  well_refused L r f = by_outcome (first_line (split newline (sheet_text w))) (lines-judged w h)
    where
      by_outcome : (o : Meaning) → Judged w o → o ≡ refused r L
      by_outcome (refused x K) g = let same = first_one g f in let a : K ≡ L = same.0 in let b : x ≡ r = same.1 in cc
      by_outcome (stated v) g = absurd (g.1 L r f.here)

  -- and without one it is taken
  well_stated : ((K : ℕ) (x : Refusal) → LineFault w K x → ⊥) → first_line (split newline (sheet_text w)) ≡ stated w
  well_stated none = by_outcome (first_line (split newline (sheet_text w))) (lines-judged w h)
    where
      by_outcome : (o : Meaning) → Judged w o → o ≡ stated w
      by_outcome (refused x K) g = absurd (none K x g.here)
      by_outcome (stated v) g = ap stated g.0

-- ---- a line's fault is the sheet's refusal

fault-refused : (s : List ℕ) (L : ℕ) (r : Refusal) → length s ≤ 32768 → FaultAt s L r → sheet_meaning s ≡ refused r L
unfolding first_lines
fault-refused s L r fits f = meaning-lines s fits ∙ at_place placed
  where
    w : Sheet
    w = f.begun.sheet

    first : FirstFault w L r
    first = record { here = f.here; none_before = f.none_before }

    placed : RefusedAt (sheet_text w) r L
    placed =
        subst (Placed [] (split newline (sheet_text w)) (λ t. first_line (split newline t)) 1) (well_refused w f.begun.well_formed L r first) (sheet_placed (sheet_text w))

    at_place : RefusedAt (sheet_text w) r L → first_line (split newline s) ≡ refused r L
    at_place a =
        let up_to : suc a.taken ≡ L = omega (arith, a.place) in
        let rest : List ℕ = joined newline (drop L (split newline s)) in
        let same : take (suc a.taken) (split newline (sheet_text w)) ≡ take L (split newline s) =
        ap (λ (k : ℕ). take k (split newline (sheet_text w))) up_to ∙ ap (λ (t : List ℕ). take L (split newline t)) f.begun.written
        ∙ same_lines s f.begun.rest L (omega (arith, f.line_ends)) in
        ap (λ (t : List ℕ). first_line (split newline t)) (first-lines s L f.line_ends ∙ ap (λ (p : List (List ℕ)). all_ended p ++ rest) (sym same))
        ∙ a.same (elim a.formed [ inl is ↦ absurd (first_formed first (ap number is)) | inr form ↦ form.1 ]) rest

-- ---- and a refusal is 24, 22, or a line's fault

one-refusal : (s : List ℕ) {r x : Refusal} {L K : ℕ} → sheet_meaning s ≡ refused r L → sheet_meaning s ≡ refused x K → (r ≡ x) × (L ≡ K)
one-refusal s {r} {x} {L} {K} e f = let same : refused r L ≡ refused x K = sym e ∙ f in (cc, cc)

refused_by : (s : List ℕ) (r : Refusal) (L : ℕ) → sheet_meaning s ≡ refused r L → RefusedSheet s r L
unfolding first_lines
refused_by s r L e = elim (refusal s r L e) [
  | inl (over, is, none) ↦ subst (λ (x : Refusal). RefusedSheet s x L) (sym is) (subst (RefusedSheet s _) (sym none) (too_long over))
  | inr (fits, a) ↦ elim a.formed [
    | inl is ↦ subst (λ (x : Refusal). RefusedSheet s x L) (sym is)
        (malformed fits (malformed-line s L (e ∙ ap (λ (x : Refusal). refused x L) is))
        (λ K x l f. let same = one-refusal s (fault-refused s K x fits f) e in omega (arith, l, same.1)))
    | inr (other, ends, begun) ↦ at_fault fits (fault-at fits a ends begun)
  ]
]
  where
    fault-at : length s ≤ 32768 → (a : RefusedAt s r L) → suc a.taken < length (split newline s)
        → BeginsSheet (all_ended (take (suc a.taken) (split newline s))) → FaultAt s L r
    fault-at fits a ends b =
        let up_to : suc a.taken ≡ L = omega (arith, a.place) in
        let again : first_line (split newline (sheet_text b.sheet)) ≡ refused r L =
        ap (λ (t : List ℕ). first_line (split newline t)) b.written ∙ a.same ends b.rest in
        let first : FirstFault b.sheet L r = subst (Judged b.sheet) again (lines-judged b.sheet b.well_formed) in
        record {
          line_ends = omega (arith, ends, up_to);
          begun = record {
            sheet = b.sheet;
            well_formed = b.well_formed;
            rest = b.rest;
            written = b.written ∙ ap (λ (k : ℕ). all_ended (take k (split newline s)) ++ b.rest) up_to;
          };
          none_before = first.none_before;
          here = first.here;
        }

by_refused : (s : List ℕ) (r : Refusal) (L : ℕ) → RefusedSheet s r L → sheet_meaning s ≡ refused r L
by_refused s r L (too_long over) = meaning-long s over
by_refused s r L (at_fault fits f) = fault-refused s L r fits f
by_refused s r L (malformed fits m none) = elim (malformed-refused s L m) [
  | inl e ↦ e
  | inr (x, p, e, other, l) ↦ absurd (earlier x p other l (refused_by s x p e))
]
  where
    earlier : (x : Refusal) (p : ℕ) → (number x ≡ 22 → ⊥) → p < L → RefusedSheet s x p → ⊥
    earlier x p other l (too_long over) = omega (arith, over, fits)
    earlier x p other l (malformed a b c) = other refl
    earlier x p other l (at_fault a f) = none p x l f

-- A SHEET IS REFUSED EXACTLY AS THE GRAMMAR TELLS
pub refused_exactly : (s : List ℕ) (r : Refusal) (L : ℕ) → (sheet_meaning s ≡ refused r L) ↔ RefusedSheet s r L
refused_exactly s r L = (refused_by s r L, by_refused s r L)

-- AND TAKEN EXACTLY WHERE IT IS A WELL-FORMED SHEET, NOT TOO LONG, WITHOUT A FAULT
pub stated_exactly : (s : List ℕ) (w : Sheet)
    → (sheet_meaning s ≡ stated w) ↔ ((length s ≤ 32768) × WellFormed w × (sheet_text w ≡ s) × ((K : ℕ) (x : Refusal) → LineFault w K x → ⊥))
stated_exactly s w = (there, back)
  where
    there : sheet_meaning s ≡ stated w → (length s ≤ 32768) × WellFormed w × (sheet_text w ≡ s) × ((K : ℕ) (x : Refusal) → LineFault w K x → ⊥)
    there e = elim (lt_or_ge 32768 (length s)) [
      | inl over ↦ (let both = sym (meaning-long s over) ∙ e in absurd (let z : ◌≡◌ {A = ℕ} 0 1 = cc in omega arith))
      | inr fits ↦ (let t = stated-written s w e in
          let taken : first_line (split newline (sheet_text w)) ≡ stated w = ap (λ (x : List ℕ). first_line (split newline x)) t.1 ∙ sym (meaning-lines s fits) ∙ e in
          (fits, t.0, t.1, (subst (Judged w) taken (lines-judged w t.0)).1))
    ]

    back : (length s ≤ 32768) × WellFormed w × (sheet_text w ≡ s) × ((K : ℕ) (x : Refusal) → LineFault w K x → ⊥) → sheet_meaning s ≡ stated w
    back (fits, well, written, none) = meaning-lines s fits ∙ ap (λ (x : List ℕ). first_line (split newline x)) (sym written) ∙ well_stated w well none
