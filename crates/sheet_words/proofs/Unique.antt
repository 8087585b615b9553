-- Every public function's contract settles its answer. Some `marks_of`: words are names or not, and masks with the same bits are the same number. The others
-- are equations; each theorem speaks of the function's own contract, as the check reads it, `Post`. Nothing is lent to be written to.
use mathlib.Core.Path.{◌≡◌, refl, sym, ap, ap₂, ◌∙◌}
use mathlib.Core.Bool.{Bool, true, false}
use mathlib.Core.List.{List, [], ◌∷◌}
use Prim.Native.Nat.{ℕ, ◌+◌}
use native.Mathlib.Omega.{arith}
use lib.Pow.{pow_mono}
use Rattle.ground.specs.Digits.{bit}
use Rattle.ground.proofs.Bits.{same_bits, below_power}
use Rattle.std.proofs.Common.{Bor, drop, length}
use Rattle.std.specs.Option.{MatchOption, option_map}
use Rattle.sheet_words.specs.Words.{split, newline}
use Rattle.sheet_words.specs.Lines.{LineCut}
use Rattle.sheet_words.proofs.Split.{some_piece}
use Rattle.sheet_words.specs.Marks.{Marked, Names}
use Rattle.sheet_words.specs.declared.names.Marks.{Marks}
use Rattle.refusal.specs.declared.Refusal.{Refusal}
use Rattle.sheet_words.specs.declared.Fault.{Fault}
use Rattle.std.specs.Prelude.{Option, Some, None}
use Rattle.sheet_words.proofs.piece_end.Reads as piece-end
use Rattle.sheet_words.proofs.first_line.Reads as first-line
use Rattle.sheet_words.proofs.begins.Reads as begins
use Rattle.sheet_words.proofs.passed_over.Reads as passed_over
use Rattle.sheet_words.proofs.among.Reads as among

abbrev texts : Bor (List ℕ) × Bor (List ℕ) → List ℕ × List ℕ
texts p = (p.0.now, p.1.now)

abbrev FirstLine : List ℕ → Option (Bor (List ℕ) × Bor (List ℕ)) → Type 0
FirstLine text r = MatchOption r (split newline text ≡ text ∷ []) (λ cut. LineCut text cut.0.now cut.1.now)

-- one fault alone has this refusal and this line
pub fault_one : {r : Refusal} {line : ℕ} {f g : Fault} → (f.why ≡ r) × (f.line ≡ line) → (g.why ≡ r) × (g.line ≡ line) → f ≡ g
fault_one (e, h) (i, j) = ap₂ (λ (why : Refusal) (at : ℕ). record { why = why; line = at }) (e ∙ sym i) (h ∙ sym j)

pub mask_one : (a b : ℕ) → ((i : ℕ) → bit a i ≡ bit b i) → a ≡ b
mask_one a b f =
    same_bits (a + b) a b (omega (arith, below_power a, pow_mono {i = a} {j = a + b} (omega arith))) (omega (arith, below_power b, pow_mono {i = b} {j = a + b} (omega arith)))
    (λ i h. f i)

abbrev made : ℕ → ℕ → Bool → Marks
made named values twice = record { named = named; values = values; twice = twice }

module _ (first : ℕ) (words : List (List ℕ)) where
  marks-one : (m k : Marks) → Marked first words m → Marked first words k → m ≡ k
  marks-one m k p q =
      ap₂ (λ (a b : ℕ). made a b m.twice) (mask_one m.named k.named (λ j. p.named j ∙ sym (q.named j))) (mask_one m.values k.values (λ j. p.values j ∙ sym (q.values j)))
      ∙ ap (made k.named k.values) (p.again ∙ sym q.again)

  pub names-one : (are : Bool) (x y : Option Marks) → Names are first words x → Names are first words y → x ≡ y
  names-one true (Some m) (Some k) p q = ap Some (marks-one m k p q)
  names-one false None None p q = refl
  names-one false None (Some k) p q = elim q [ ]
  names-one false (Some m) y p q = elim p [ ]
  names-one true None y p q = elim p [ ]
  names-one true (Some m) None p q = elim q [ ]

pub piece_end_unique : (κs : _) (a : _) (x y : _) (s : _) → piece-end.Post κs a x s → piece-end.Post κs a y s → x ≡ y
piece_end_unique κs a x y s p q = p ∙ sym q

-- of `first_line`: the line and what follows it
first_line_one : (text : List ℕ) (x y : Option (Bor (List ℕ) × Bor (List ℕ))) → FirstLine text x → FirstLine text y → option_map texts x ≡ option_map texts y
first_line_one text None None p q = refl
first_line_one text None (Some y) p q = absurd (some_piece newline (λ (ps : List (List ℕ)). ps ≡ [] → ⊥) (λ p ps e. absurd cc) y.1.now cc)
first_line_one text (Some x) None p q = absurd (some_piece newline (λ (ps : List (List ℕ)). ps ≡ [] → ⊥) (λ p ps e. absurd cc) x.1.now cc)
first_line_one text (Some x) (Some y) p q =
    let e : x.0.now ≡ y.0.now = cc (p.pieces, q.pieces) in
    ap₂ (λ (a b : List ℕ). Some (a, b)) e (p.rest_is ∙ ap (λ (s : List ℕ). drop (length s + 1) text) e ∙ sym q.rest_is)

pub first_line_unique : (κs : _) (a : _) (x y : _) (s : _) → first-line.Post κs a x s → first-line.Post κs a y s → option_map texts x ≡ option_map texts y
first_line_unique κs a x y s p q = first_line_one a.0.now x y p q

pub begins_unique : (κs : _) (a : _) (x y : _) (s : _) → begins.Post κs a x s → begins.Post κs a y s → x ≡ y
begins_unique κs a x y s p q = p ∙ sym q

pub among_unique : (κs : _) (a : _) (x y : _) (s : _) → among.Post κs a x s → among.Post κs a y s → x ≡ y
among_unique κs a x y s p q = p ∙ sym q

pub passed_over_unique : (κs : _) (a : _) (x y : _) (s : _) → passed_over.Post κs a x s → passed_over.Post κs a y s → x ≡ y
passed_over_unique κs a x y s p q = p ∙ sym q
