-- A text, a line at a time: what is left from a place on is the line that begins there and what is left after it. Then the whole text.
use mathlib.Core.Path.{◌≡◌, refl, ap, ◌∙◌}
use mathlib.Core.Bool.{Bool, cond}
use mathlib.Core.List.{List, [], ◌∷◌, ◌++◌}
use Prim.Native.Nat.{ℕ, suc, ◌-◌, ◌≤◌, ◌<◌}
use lib.Dec.{ltb}
use lib.ListN.{length}
use borrow.Author.Tests.{lt-ltb, le-ltb}
use Rattle.refusal.specs.declared.Refusal.TheVariants.{Malformed, SheetLength}
use Rattle.sheet_words.specs.Words.{split, newline}
use Rattle.sheet_words.proofs.Split.{some_piece}
use Rattle.sheet_words.specs.Lines.{LineCut}
use Rattle.plancheck_text.specs.Meaning.{stray_rest}
use Rattle.std.specs.Prelude.{Option, Some, None}
use Rattle.station_text.specs.Lines.{records_in, is_line, line_record}
use Rattle.station_text.specs.Meaning.{refused, gives, unless_stray, stray_line, lines_bytes, read_meaning, line_of}
use Rattle.station_text.proofs.ToldLaws.{refused_by, passed_by}

-- ---- a line and the text t after it

module _ (line t : List ℕ) where
  pub stray_line_lem : (L : ℕ) {b : Bool} → is_line line ≡ b → stray_line L (line ∷ split newline t) ≡ cond b (stray_line (suc L) (split newline t)) (Some L)
  unfolding stray_line
  stray_line_lem L {b} e =
      some_piece newline (λ q. stray_line L (line ∷ q) ≡ cond b (stray_line (suc L) q) (Some L))
      (λ p ps. ap (λ (x : Bool). cond x (stray_line (suc L) (p ∷ ps)) (Some L)) e) t

  pub bytes-line : lines_bytes (line ∷ split newline t) ≡ line_record line ++ lines_bytes (split newline t)
  unfolding lines_bytes
  bytes-line = some_piece newline (λ q. lines_bytes (line ∷ q) ≡ line_record line ++ lines_bytes q) (λ p ps. refl) t

  pub of_line : (L index : ℕ) {b : Bool} → ltb index (records_in line) ≡ b
      → line_of L index (line ∷ split newline t) ≡ cond b (Some L) (line_of (suc L) (index - records_in line) (split newline t))
  unfolding line_of
  of_line L index {b} e =
      some_piece newline (λ q. line_of L index (line ∷ q) ≡ cond b (Some L) (line_of (suc L) (index - records_in line) q))
      (λ p ps. ap (λ (x : Bool). cond x (Some L) (line_of (suc L) (index - records_in line) (p ∷ ps))) e) t

module _ (s line t : List ℕ) (cut : LineCut s line t) where
  pub stray_turn : (L : ℕ) {b : Bool} → is_line line ≡ b → stray_line L (split newline s) ≡ cond b (stray_line (suc L) (split newline t)) (Some L)
  stray_turn L e = ap (stray_line L) cut.pieces ∙ stray_line_lem line t L e

  pub bytes_turn : lines_bytes (split newline s) ≡ line_record line ++ lines_bytes (split newline t)
  bytes_turn = ap lines_bytes cut.pieces ∙ bytes-line line t

  -- it gives the record, or that comes later
  module _ (L index : ℕ) where
    of_turn : {b : Bool} → ltb index (records_in line) ≡ b → line_of L index (split newline s) ≡ cond b (Some L) (line_of (suc L) (index - records_in line) (split newline t))
    of_turn e = ap (line_of L index) cut.pieces ∙ of_line line t L index e

    pub of_here : index < records_in line → line_of L index (split newline s) ≡ Some L
    of_here h = of_turn (lt-ltb index (records_in line) h)

    pub of_later : records_in line ≤ index → line_of L index (split newline s) ≡ line_of (suc L) (index - records_in line) (split newline t)
    of_later h = of_turn (le-ltb index (records_in line) h)

-- ---- the last piece

module _ (t : List ℕ) (last : split newline t ≡ t ∷ []) where
  pub stray-last : (L : ℕ) → stray_line L (split newline t) ≡ stray_rest L t
  unfolding stray_line
  stray-last L = ap (stray_line L) last

  pub bytes_last : lines_bytes (split newline t) ≡ []
  unfolding lines_bytes
  bytes_last = ap lines_bytes last

  pub of_last : (L index : ℕ) → line_of L index (split newline t) ≡ None
  unfolding line_of
  of_last L index = ap (line_of L index) last

-- ---- the whole text

module _ (s : List ℕ) where
  pub too_long : 2097152 < length s → read_meaning s ≡ refused SheetLength
  unfolding read_meaning
  too_long h = refused_by _ _ _ (lt-ltb 2097152 (length s) h)

  module _ (fits : length s ≤ 2097152) where
    pub with_stray : (L : ℕ) → stray_line 1 (split newline s) ≡ Some L → read_meaning s ≡ refused (Malformed L)
    unfolding read_meaning unless_stray
    with_stray L e =
        passed_by _ _ _ (le-ltb 2097152 (length s) fits) ∙ ap (λ (n : Option ℕ). unless_stray n (gives (lines_bytes (split newline s)))) e

    pub without_stray : stray_line 1 (split newline s) ≡ None → read_meaning s ≡ gives (lines_bytes (split newline s))
    unfolding read_meaning unless_stray
    without_stray e =
        passed_by _ _ _ (le-ltb 2097152 (length s) fits) ∙ ap (λ (n : Option ℕ). unless_stray n (gives (lines_bytes (split newline s)))) e
