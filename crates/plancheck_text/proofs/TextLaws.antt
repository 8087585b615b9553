-- A text, a line at a time: what is left from a place on is the line that begins there and what is left after it. Then the whole text, from its first line.
use mathlib.Core.Path.{◌≡◌, refl, sym, ap, ◌∙◌, subst}
use mathlib.Core.Logic.{⊎_elim}
use mathlib.Core.Bool.{Bool, true, false, cond}
use lib.Dec.{eqb, eqb→eq}
use Rattle.sheet_words.specs.Lines.{LineCut}
use mathlib.Core.List.{List, [], ◌∷◌}
use Prim.Native.Nat.{ℕ, suc, ◌≤◌, ◌<◌}
use native.Mathlib.Omega.{arith}
use lib.ListN.{length}
use borrow.Author.Tests.{lt-ltb, le-ltb}
use Rattle.ground.proofs.Bools.{lt_or_ge, true→T}
use Rattle.refusal.specs.declared.Refusal.{Refusal}
use Rattle.refusal.specs.declared.Refusal.TheVariants.{Malformed, SheetLength}
use Rattle.print_room.specs.Wrote.{Wrote}
use Rattle.print_answer.proofs.Fitted.{prints}
use Rattle.sheet_words.specs.Words.{split, newline}
use Rattle.sheet_words.proofs.Split.{some_piece}
use Rattle.plancheck_text.specs.Lines.{is_reach_line, is_plan_line, line_byte}
use Rattle.plancheck_text.specs.Meaning.{Meaning, refused, plan, stray_rest, stray_line, line_bytes, unless_stray, lines_meaning, plan_text_meaning, ReadsPlan}
use Rattle.std.specs.Prelude.{Some, None, Ok, Err}

-- ---- a line and the text t after it

module _ (line t : List ℕ) where
  pub stray_line_lem : (L : ℕ) {b : Bool} → is_plan_line line ≡ b → stray_line L (line ∷ split newline t) ≡ cond b (stray_line (suc L) (split newline t)) (Some L)
  unfolding stray_line
  stray_line_lem L {b} e =
      some_piece newline (λ q. stray_line L (line ∷ q) ≡ cond b (stray_line (suc L) q) (Some L))
      (λ p ps. ap (λ (x : Bool). cond x (stray_line (suc L) (p ∷ ps)) (Some L)) e) t

  pub byte-line : line_bytes (line ∷ split newline t) ≡ line_byte line ∷ line_bytes (split newline t)
  unfolding line_bytes
  byte-line = some_piece newline (λ q. line_bytes (line ∷ q) ≡ line_byte line ∷ line_bytes q) (λ p ps. refl) t

  pub reach_line : {b : Bool} → is_reach_line line ≡ b
      → lines_meaning (line ∷ split newline t) ≡ cond b (unless_stray (stray_line 2 (split newline t)) (line_bytes (split newline t))) (refused (Malformed 1))
  unfolding lines_meaning
  reach_line {b} e =
      some_piece newline (λ q. lines_meaning (line ∷ q) ≡ cond b (unless_stray (stray_line 2 q) (line_bytes q)) (refused (Malformed 1)))
      (λ p ps. ap (λ (x : Bool). cond x (unless_stray (stray_line 2 (p ∷ ps)) (line_bytes (p ∷ ps))) (refused (Malformed 1))) e) t

module _ (s line t : List ℕ) (cut : LineCut s line t) where
  pub stray_turn : (L : ℕ) {b : Bool} → is_plan_line line ≡ b → stray_line L (split newline s) ≡ cond b (stray_line (suc L) (split newline t)) (Some L)
  stray_turn L e = ap (stray_line L) cut.pieces ∙ stray_line_lem line t L e

  pub bytes_turn : line_bytes (split newline s) ≡ line_byte line ∷ line_bytes (split newline t)
  bytes_turn = ap line_bytes cut.pieces ∙ byte-line line t

-- ---- the last piece

pub rest_some : (L : ℕ) (t : List ℕ) → eqb (length t) 0 ≡ false → Some L ≡ stray_rest L t
rest_some L [] h = absurd cc
rest_some L (c ∷ t) h = refl

pub rest-none : (L : ℕ) (t : List ℕ) → eqb (length t) 0 ≡ true → None ≡ stray_rest L t
rest-none L [] h = refl
rest-none L (c ∷ t) h = absurd (let z = eqb→eq (suc (length t)) 0 (true→T h) in omega arith)

module _ (t : List ℕ) (last : split newline t ≡ t ∷ []) where
  pub stray-last : (L : ℕ) → stray_line L (split newline t) ≡ stray_rest L t
  unfolding stray_line
  stray-last L = ap (stray_line L) last

  pub bytes_last : line_bytes (split newline t) ≡ []
  unfolding line_bytes
  bytes_last = ap line_bytes last

-- ---- the whole text

pub too_long : (s : List ℕ) → 524288 < length s → plan_text_meaning s ≡ refused SheetLength
unfolding plan_text_meaning
too_long s h = ap (λ (b : Bool). cond b (refused SheetLength) (lines_meaning (split newline s))) (lt-ltb 524288 (length s) h)

pub by_lines : (s : List ℕ) → length s ≤ 524288 → plan_text_meaning s ≡ lines_meaning (split newline s)
unfolding plan_text_meaning
by_lines s h = ap (λ (b : Bool). cond b (refused SheetLength) (lines_meaning (split newline s))) (le-ltb 524288 (length s) h)

-- a text that is a plan's is not too long
pub within : (s : List ℕ) {b : List ℕ} → plan_text_meaning s ≡ plan b → (length s ≤ 524288) × (lines_meaning (split newline s) ≡ plan b)
within s e =
    ⊎_elim
    (λ (h : 524288 < length s). absurd (let z = sym (too_long s h) ∙ e in cc))
    (λ (h : length s ≤ 524288). (h, sym (by_lines s h) ∙ e))
    (lt_or_ge 524288 (length s))

module _ (s : List ℕ) (h : length s ≤ 524288) where
  pub no_line : split newline s ≡ s ∷ [] → plan_text_meaning s ≡ refused (Malformed 1)
  unfolding lines_meaning
  no_line e = by_lines s h ∙ ap lines_meaning e

  pub first-line : (line t : List ℕ) → split newline s ≡ line ∷ split newline t → {b : Bool} → is_reach_line line ≡ b
      → plan_text_meaning s ≡ cond b (unless_stray (stray_line 2 (split newline t)) (line_bytes (split newline t))) (refused (Malformed 1))
  first-line line t pieces e = by_lines s h ∙ ap lines_meaning pieces ∙ reach_line line t e

-- ---- what is told

module _ (m : Meaning) (old : List ℕ) where
  pub tells-refused : (r : Refusal) → m ≡ refused r → ReadsPlan m (Err r) old old
  tells-refused r e = subst (λ (x : Meaning). ReadsPlan x (Err r) old old) (sym e) (refl, refl)

  pub tells-read : (t new : List ℕ) (count : ℕ) → m ≡ plan t → Wrote old 0 t new count → ReadsPlan m (Ok count) old new
  tells-read t new count e w = subst (λ (x : Meaning). ReadsPlan x (Ok count) old new) (sym e) (prints w)
