-- Where a piece ends: a byte that is no mark goes onto the piece that follows, so both end at one place; and up to there `split` takes the piece off
-- whole. By induction on the text.
use mathlib.Core.Path.{◌≡◌, refl, sym, ap, ap₂, ◌∙◌}
use mathlib.Core.Logic.{◌⊎◌, inl, inr}
use mathlib.Core.List.{List, [], ◌∷◌}
use Prim.Native.Nat.{ℕ, suc, ◌+◌, ◌-◌, ◌≤◌, ◌<◌}
use native.Mathlib.Omega.{arith}
use lib.ListN.{length, get_or, take, drop, length-drop, drop_of_length-le}
use lib.Seq.{drop-drop, drop-cons, take_all, length-take-le}
use Rattle.sheet_words.specs.Words.{split, onto, first_piece, newline, piece_end}
use Rattle.sheet_words.specs.Lines.{LineCut}
use Rattle.sheet_words.proofs.Split.{split_mark, split-other, by_byte}

-- ---- the end, a byte at a time

onto-first : (c : ℕ) (pieces : List (List ℕ)) → first_piece (onto c pieces) ≡ c ∷ first_piece pieces
unfolding onto first_piece
onto-first c [] = refl
onto-first c (piece ∷ pieces) = refl

module _ (s : List ℕ) (i mark : ℕ) where
  pub end_past : length s ≤ i → piece_end s i mark ≡ i
  unfolding piece_end split first_piece
  end_past h = ap (λ (t : List ℕ). i + length (first_piece (split mark t))) (drop_of_length-le s h) ∙ omega arith

  module _ (h : i < length s) where
    first-at : {pieces : List (List ℕ)} → split mark (get_or s i 0 ∷ drop (suc i) s) ≡ pieces → piece_end s i mark ≡ i + length (first_piece pieces)
    unfolding piece_end
    first-at e = ap (λ (q : List (List ℕ)). i + length (first_piece q)) (ap (split mark) (drop-cons s i 0 h) ∙ e)

    pub end_mark : get_or s i 0 ≡ mark → piece_end s i mark ≡ i
    unfolding first_piece
    end_mark e = first-at (ap (λ (c : ℕ). split mark (c ∷ drop (suc i) s)) e ∙ split_mark mark (drop (suc i) s)) ∙ omega arith

    pub end_other : (get_or s i 0 ≡ mark → ⊥) → piece_end s i mark ≡ piece_end s (suc i) mark
    unfolding piece_end
    end_other ne =
        first-at (split-other mark (get_or s i 0) (drop (suc i) s) ne)
        ∙ ap (λ (p : List ℕ). i + length p) (onto-first (get_or s i 0) (split mark (drop (suc i) s)))
        ∙ omega arith

-- ---- the piece that ends there

-- the bytes from a to b
abbrev pub part : List ℕ → ℕ → ℕ → List ℕ
part s a b = take (b - a) (drop a s)

-- the piece that begins at `at` ends at r: before a mark, or with the text
pub record PieceEnd (s : List ℕ) (at mark r : ℕ) : Type 0 where
  pub from : at ≤ r
  pub within : r ≤ length s
  pub more : r < length s → split mark (drop at s) ≡ part s at r ∷ split mark (drop (suc r) s)
  pub last : length s ≤ r → split mark (drop at s) ≡ part s at r ∷ []

-- the first of the pieces q of t is before a mark, or all of t
Cut : ℕ → List ℕ → List (List ℕ) → Type 0
Cut mark t q =
    ((length (first_piece q) < length t) × (q ≡ take (length (first_piece q)) t ∷ split mark (drop (suc (length (first_piece q))) t))) ⊎ ((length (first_piece q) ≡ length t) × (q ≡ t ∷ []))

module _ (mark c : ℕ) (s : List ℕ) where
  cut_on : Cut mark s (split mark s) → Cut mark (c ∷ s) (onto c (split mark s))
  unfolding Cut onto
  cut_on (inl (l, e)) = rw (onto-first c (split mark s)) (inl (omega arith, ap (onto c) e))
  cut_on (inr (l, e)) = rw (onto-first c (split mark s)) (inr (ap suc l, ap (onto c) e))

cut : (mark : ℕ) (t : List ℕ) → Cut mark t (split mark t)
unfolding Cut split first_piece
cut mark [] = inr (refl, refl)
cut mark (c ∷ s) =
    by_byte mark (λ c s q. Cut mark s (split mark s) → Cut mark (c ∷ s) q) (λ s h. inl (omega arith, refl)) (λ c s other h. cut_on mark c s h) c s (cut mark s)

module _ (s : List ℕ) (at mark r : ℕ) (inside : at ≤ length s) (e : r ≡ piece_end s at mark) where
  long : length (first_piece (split mark (drop at s))) ≡ r - at
  unfolding piece_end
  long = omega (arith, e)

  pub piece_is : PieceEnd s at mark r
  unfolding piece_end Cut
  piece_is = elim (cut mark (drop at s)) [
    | inl (l, p) ↦ record {
      from = omega (arith, e);
      within = omega (arith, e, length-drop at s);
      more = λ h. p ∙ ap (λ (k : ℕ). take k (drop at s) ∷ split mark (drop (suc k) (drop at s))) long
          ∙ ap (λ (t : List ℕ). part s at r ∷ split mark t) (drop-drop (suc (r - at)) at s ∙ ap (λ (i : ℕ). drop i s) {x = at + suc (r - at)} {y = suc r} (omega (arith, e)));
      last = λ h. absurd (omega (arith, e, length-drop at s));
    }
    | inr (l, p) ↦ record {
      from = omega (arith, e);
      within = omega (arith, e, length-drop at s);
      more = λ h. absurd (omega (arith, e, length-drop at s));
      last = λ h. p ∙ ap (λ (t : List ℕ). t ∷ []) (sym (take_all (r - at) (drop at s) (omega (arith, e, length-drop at s))));
    }
  ]

-- all from a place on, as a part of a slice has it
pub tail : (s : List ℕ) (a : ℕ) → take (length s - a) (drop a s) ≡ drop a s
tail s a = take_all (length s - a) (drop a s) (omega (arith, length-drop a s))

-- the first line and what follows it, as parts of a slice have them
module _ (s : List ℕ) (r : ℕ) (e : r ≡ piece_end s 0 newline) where
  whole : PieceEnd s 0 newline r
  whole = piece_is s 0 newline r (omega arith) e

  pub line_cut : r < length s → LineCut s (take r s) (take (length s - (r + 1)) (drop (r + 1) s))
  line_cut h =
      let n = length-take-le r s (omega arith) in
      let t = tail s (r + 1) in
      record {
        pieces = whole.more h ∙ ap₂ (λ (k : ℕ) (t : List ℕ). take k s ∷ split newline t) {x = r - 0} {y = r} (omega arith) (ap (λ (k : ℕ). drop k s) {x = suc r} {y = r + 1} (omega arith) ∙ sym t);
        line_is = ap (λ (k : ℕ). take k s) (sym n);
        rest_is = t ∙ ap (λ (k : ℕ). drop (k + 1) s) (sym n);
        lengths = omega (arith, n, ap length t, length-drop (r + 1) s);
      }

  pub no_line : length s ≤ r → split newline s ≡ s ∷ []
  no_line h = whole.last h ∙ ap (λ (t : List ℕ). t ∷ []) (take_all (r - 0) s (omega arith))
