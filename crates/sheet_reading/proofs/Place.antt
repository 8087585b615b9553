-- The place of 22 is the grammar's: the lines before the refused one begin a well-formed sheet and the lines up to it begin none, since a sheet
-- that began with them would be refused with 22 itself.
use mathlib.Core.Path.{◌≡◌, refl, sym, ap, ◌∙◌, subst}
use mathlib.Core.Logic.{◌⊎◌, inl, inr}
use mathlib.Core.List.{List, [], ◌++◌}
use mathlib.Core.Bool.{Bool, cond}
use Prim.Native.Nat.{ℕ, suc, ◌+◌, ◌-◌, ◌≤◌, ◌<◌}
use native.Mathlib.Omega.{arith}
use lib.Dec.{ltb, ltb→lt, lt→ltb}
use lib.ListN.{length, take, drop}
use lib.Seq.{take-add}
use Rattle.ground.proofs.Bools.{T→true, T→false, decide, lt_or_ge}
use Rattle.ground.proofs.Search.{least_unique}
use Rattle.refusal.specs.declared.Refusal.{Refusal}
use Rattle.refusal.specs.declared.Refusal.TheVariants.{Malformed, SheetLength}
use Rattle.refusal.specs.Refusals.{number}
use Rattle.sheet_words.specs.Words.{split, newline}
use Rattle.sheet_words.proofs.Split.{joined, some_piece}
use Rattle.sheet_reading.specs.Reading.{Meaning, refused, stated, sheet_meaning}
use Rattle.sheet_reading.proofs.OnePass.{first_line}
use Rattle.sheet_reading.specs.Grammar.{sheet_text}
use Rattle.sheet_reading.specs.Place.{BeginsSheet, IsSheet, all_ended, first_lines, Breaks, MalformedAt, at_line, at_end}
use Rattle.sheet_reading.proofs.TwoParts.{sheet-meaning}
use Rattle.sheet_reading.proofs.Lines.{ended-append, first-lines}
use Rattle.sheet_reading.proofs.SoFar.{begins_less}
use Rattle.sheet_reading.proofs.Taken.{taken-only_well_formed}
use Rattle.sheet_reading.proofs.Grammar.{Fine, lines_fine, twenty_two-never}
use Rattle.sheet_reading.proofs.RefusedAt.{At, Placed, empty_begins, sheet_placed}

-- ---- fewer lines of a sheet that begins so begin one too

fewer_lines : (s : List ℕ) (K L : ℕ) → K ≤ L → BeginsSheet (first_lines L s) → BeginsSheet (first_lines K s)
unfolding first_lines
fewer_lines s K L h b =
    let pieces : List (List ℕ) = split newline s in
    let sum : L ≡ K + (L - K) = omega arith in
    let cut : take L pieces ≡ take K pieces ++ take (L - K) (drop K pieces) = ap (λ (n : ℕ). take n pieces) sum ∙ take-add K (L - K) pieces in
    begins_less (all_ended (take K pieces)) (all_ended (take (L - K) (drop K pieces)))
    (subst BeginsSheet (ap all_ended cut ∙ ended-append (take K pieces) (take (L - K) (drop K pieces))) b)

-- ---- a refusal is the first line's fault, or 24

pub meaning-long : (s : List ℕ) → 32768 < length s → sheet_meaning s ≡ refused SheetLength 0
meaning-long s h = sheet-meaning s ∙ ap (λ (over : Bool). cond over (refused SheetLength 0) (first_line (split newline s))) (T→true (ltb 32768 (length s)) (lt→ltb 32768 (length s) h))

pub meaning-lines : (s : List ℕ) → length s ≤ 32768 → sheet_meaning s ≡ first_line (split newline s)
meaning-lines s h = sheet-meaning s ∙ elim (decide (ltb 32768 (length s))) [
  | inl over ↦ absurd (omega (arith, h, ltb→lt 32768 (length s) over))
  | inr fits ↦ ap (λ (over : Bool). cond over (refused SheetLength 0) (first_line (split newline s))) (T→false (ltb 32768 (length s)) fits)
]

-- what a refusal says of the sheet's lines
abbrev pub RefusedAt : List ℕ → Refusal → ℕ → Type 0
RefusedAt s r L = At [] (split newline s) (λ t. first_line (split newline t)) 1 r L

pub refusal : (s : List ℕ) (r : Refusal) (L : ℕ) → sheet_meaning s ≡ refused r L
    → ((32768 < length s) × (r ≡ SheetLength) × (L ≡ 0)) ⊎ ((length s ≤ 32768) × RefusedAt s r L)
refusal s r L e = elim (lt_or_ge 32768 (length s)) [
  | inl over ↦ (let same = sym (meaning-long s over) ∙ e in inl (over, cc, cc))
  | inr fits ↦ inr (fits, subst (Placed [] (split newline s) (λ t. first_line (split newline t)) 1) (sym (meaning-lines s fits) ∙ e) (sheet_placed s))
]

-- ---- the place of 22

-- no well-formed sheet begins with the lines up to the one that is 22
begins-none : (s : List ℕ) (L : ℕ) → RefusedAt s (Malformed L) L → L < length (split newline s) → BeginsSheet (first_lines L s) → ⊥
unfolding first_lines
begins-none s L a l b =
    let up_to : L ≡ suc a.taken = omega (arith, a.place) in
    let again : first_line (split newline (sheet_text b.sheet)) ≡ refused (Malformed L) L =
    ap (λ (t : List ℕ). first_line (split newline t)) (b.written ∙ ap (λ (n : ℕ). all_ended (take n (split newline s)) ++ b.rest) up_to)
    ∙ a.same (omega arith) b.rest in
    subst (Fine b.sheet) again (lines_fine b.sheet b.well_formed) refl

-- THE PLACE OF 22
pub malformed-line : (s : List ℕ) (L : ℕ) → sheet_meaning s ≡ refused (Malformed L) L → MalformedAt s L
unfolding first_lines
malformed-line s L e = elim (refusal s (Malformed L) L e) [ inl h ↦ absurd (omega (arith, ap number h.1)) | inr (fits, a) ↦ by_place a ]
  where
    by_place : RefusedAt s (Malformed L) L → MalformedAt s L
    by_place a =
        let before : (K : ℕ) → K < L → Breaks s K → ⊥ = λ K l k. k.1 (fewer_lines s K a.taken (omega (arith, a.place)) a.begun) in
        elim (lt_or_ge L (length (split newline s))) [
          | inl l ↦ at_line (record { here = (l, begins-none s L a l); none_below = before })
          | inr l ↦ (let end : length (split newline s) ≡ L = omega (arith, a.place, a.inside) in
              subst (MalformedAt s) end (at_end (λ K k. before K (omega (arith, k.0)) k) (λ w. twenty_two-never w.sheet w.well_formed (Malformed L) L refl (ap sheet_meaning w.written ∙ e))))
        ]

-- ---- and every sheet with such a place is refused there, or at an earlier line

malformed_unique : {s : List ℕ} {K L : ℕ} → MalformedAt s K → MalformedAt s L → K ≡ L
malformed_unique (at_line a) (at_line b) = least_unique a b
malformed_unique (at_line {L = K} a) (at_end f g) = absurd (f K a.here)
malformed_unique (at_end f g) (at_line {L = L} b) = absurd (f L b.here)
malformed_unique (at_end f g) (at_end h k) = refl

-- a well-formed sheet has none
sheet-sound : {s : List ℕ} {L : ℕ} → MalformedAt s L → IsSheet s → ⊥
unfolding first_lines
sheet-sound {s} (at_line {L = L} a) w =
    a.here.1 (record {
      sheet = w.sheet;
      well_formed = w.well_formed;
      rest = joined newline (drop L (split newline s));
      written = w.written ∙ first-lines s L a.here.0;
    })
sheet-sound (at_end f g) w = g w

-- a place where the form is right comes before it
formed_before : {s : List ℕ} {L : ℕ} → MalformedAt s L → (K : ℕ) → K < length (split newline s) → BeginsSheet (first_lines K s) → K < L
formed_before {s} (at_line {L = L} a) K l b = elim (lt_or_ge K L) [ inl h ↦ h | inr h ↦ absurd (a.here.1 (fewer_lines s L K h b)) ]
formed_before (at_end f g) K l b = l

-- a refusal with the number 22 names its own line
pub malformed-only : (s : List ℕ) (r : Refusal) (L : ℕ) → sheet_meaning s ≡ refused r L → number r ≡ 22 → r ≡ Malformed L
malformed-only s r L e z = elim (refusal s r L e) [
  | inl k ↦ absurd (omega (arith, z, ap number k.1))
  | inr (fits, a) ↦ elim a.formed [ inl is ↦ is | inr form ↦ absurd (form.0 z) ]
]

pub malformed-numbered : (s : List ℕ) (r : Refusal) (L : ℕ) → sheet_meaning s ≡ refused r L → number r ≡ 22 → MalformedAt s L
malformed-numbered s r L e z = malformed-line s L (e ∙ ap (λ (x : Refusal). refused x L) (malformed-only s r L e z))

pub malformed-refused : (s : List ℕ) (L : ℕ) → MalformedAt s L
    → (sheet_meaning s ≡ refused (Malformed L) L) ⊎ ((r : Refusal) × (p : ℕ) × (sheet_meaning s ≡ refused r p) × (number r ≡ 22 → ⊥) × (p < L))
unfolding first_lines all_ended
malformed-refused s L m = by_outcome (sheet_meaning s) refl
  where
    by_outcome : (o : Meaning) → sheet_meaning s ≡ o → (o ≡ refused (Malformed L) L) ⊎ ((r : Refusal) × (p : ℕ) × (o ≡ refused r p) × (number r ≡ 22 → ⊥) × (p < L))
    by_outcome (stated w) e = absurd (sheet-sound m (taken-only_well_formed s w e))
    by_outcome (refused r p) e = elim (refusal s r p e) [
      | inl k ↦ (let other : number r ≡ 22 → ⊥ = λ z. omega (arith, z, ap number k.1) in
          inr (r, p, refl, other, rw k.2 (formed_before m 0 (some_piece newline (λ q. 0 < length q) (λ x xs. omega arith) s) empty_begins)))
      | inr (fits, a) ↦ elim a.formed [
        | inl is ↦ (let same = malformed_unique (malformed-line s p (e ∙ ap (λ (x : Refusal). refused x p) is)) m in
            inl (ap (λ (x : Refusal). refused x p) is ∙ ap (λ (k : ℕ). refused (Malformed k) k) same))
        | inr form ↦ (let at : p ≡ suc a.taken = omega (arith, a.place) in
            inr (r, p, refl, form.0, rw at (formed_before m (suc a.taken) form.1 form.2)))
      ]
    ]
