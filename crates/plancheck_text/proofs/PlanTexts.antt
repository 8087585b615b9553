-- A text that is taken, taken apart: its lines are written as the grammar says. How long they are, and which byte is in which line, is by induction on the bytes.
use mathlib.Core.Path.{◌≡◌, refl, sym, ap, ◌∙◌, subst}
use mathlib.Core.Bool.{Bool, true, false, cond}
use mathlib.Core.List.{List, [], ◌∷◌, ◌++◌, append_assoc}
use Rattle.std.specs.Prelude.{Option, Some, None}
use Prim.Native.Nat.{ℕ, zero, suc, ◌*◌, ◌≤◌, ◌<◌}
use native.Mathlib.Omega.{arith}
use lib.ListN.{length, get_or, drop, length-append}
use Rattle.ground.specs.Text.{bytes}
use Rattle.knowledge_acts.specs.declared.act.Act.TheVariants.{Set, Look}
use Rattle.refusal.specs.declared.Refusal.TheVariants.{Malformed}
use Rattle.print_answer.specs.Listed.{line, act_text}
use Rattle.sheet_words.specs.Words.{split, newline}
use Rattle.sheet_words.proofs.Split.{joined}
use Rattle.plancheck_text.specs.Lines.{is_reach_line, is_plan_line}
use Rattle.plancheck_text.specs.Meaning.{Meaning, refused, plan, stray_rest, stray_line, line_bytes, unless_stray, lines_meaning}
use Rattle.plancheck_text.specs.Grammar.{LineOf, stops, acts, LinesOf, PlanTextOf}
use Rattle.plancheck_text.proofs.ReadLines.{line-only, reach_only}
use Rattle.plancheck_text.proofs.WrittenLines.{line_taken, line-split}

-- ---- lines that are taken are written so

-- one line, where none is stray
fine_line : (L : ℕ) (l another : List ℕ) (more : List (List ℕ)) → stray_line L (l ∷ another ∷ more) ≡ None
    → (is_plan_line l ≡ true) × (stray_line (suc L) (another ∷ more) ≡ None)
unfolding stray_line
fine_line L l another more e = by_test (is_plan_line l) (stray_line (suc L) (another ∷ more)) e
  where
    by_test : (c : Bool) (n : Option ℕ) → cond c n (Some L) ≡ None → (c ≡ true) × (n ≡ None)
    by_test true n e = (refl, e)
    by_test false n e = absurd cc

pub rest_empty : (L : ℕ) (rest : List ℕ) → stray_rest L rest ≡ None → rest ≡ []
rest_empty L [] e = refl
rest_empty L (c ∷ rest) e = absurd cc

lines-only : (L : ℕ) (pieces : List (List ℕ)) → stray_line L pieces ≡ None → LinesOf (joined newline pieces) (line_bytes pieces)
unfolding stray_line line_bytes
lines-only L [] e = refl
lines-only L (rest ∷ []) e = ap (λ (t : List ℕ). t ++ []) (rest_empty L rest e)
lines-only L (l ∷ another ∷ more) e =
    let x = fine_line L l another more e in (
      l,
      joined newline (another ∷ more),
      line-only l x.0,
      sym (append_assoc l (10 ∷ []) (joined newline (another ∷ more))),
      lines-only (suc L) (another ∷ more) x.1,
    )

-- ---- the whole text

module _ {b : List ℕ} where
  no_refusal : (c : Bool) (m : Meaning) → cond c m (refused (Malformed 1)) ≡ plan b → (c ≡ true) × (m ≡ plan b)
  no_refusal true m e = (refl, e)
  no_refusal false m e = absurd cc

  no_stray : (L : Option ℕ) (t : List ℕ) → unless_stray L t ≡ plan b → (L ≡ None) × (t ≡ b)
  no_stray None t e = (refl, cc)
  no_stray (Some L) t e = absurd cc

pub text-only : (pieces : List (List ℕ)) (b : List ℕ) → lines_meaning pieces ≡ plan b → PlanTextOf (joined newline pieces) b
unfolding lines_meaning
text-only [] b e = absurd cc
text-only (rest ∷ []) b e = absurd cc
text-only (l ∷ another ∷ more) b e =
    let pieces = another ∷ more in
    let x = no_refusal (is_reach_line l) (unless_stray (stray_line 2 pieces) (line_bytes pieces)) e in
    let y = no_stray (stray_line 2 pieces) (line_bytes pieces) x.1 in
    let r = reach_only l x.0 in
    record {
      height = drop 6 l;
      number = r.0;
      rest = joined newline pieces;
      text = sym (append_assoc l (10 ∷ []) (joined newline pieces)) ∙ ap (λ (t : List ℕ). line t ++ joined newline pieces) r.1;
      lines = subst (LinesOf (joined newline pieces)) y.1 (lines-only 2 pieces y.0);
    }

-- ---- the line of a byte

module _ (c : ℕ) (b s : List ℕ) (h : LinesOf s (c ∷ b)) where
  cut : split newline s ≡ h.0 ∷ split newline h.1
  cut = ap (split newline) h.3 ∙ line-split h.0 h.1 (line_taken h.0 c h.2).clear

pub line_at : (b s : List ℕ) (i : ℕ) → LinesOf s b → i < length b → LineOf (get_or (split newline s) i []) (get_or b i 0)
line_at [] s i h k = absurd (omega arith)
line_at (c ∷ b) s zero h k = rw (cut c b s h) h.2
line_at (c ∷ b) s (suc i) h k = rw (cut c b s h) (line_at b h.1 i h.4 (omega (arith, k)))

-- ---- how long the lines are at least

-- `0 stop`
line-least : (l : List ℕ) (c : ℕ) → LineOf l c → 6 ≤ length l
line-least l c (stops depth n e x) =
    omega (arith, n.1, ap length e, length-append (depth ++ bytes " ") (bytes "stop"), length-append depth (bytes " "))
line-least l c (acts depth (Set i q b) n hi hq e x) =
    omega (arith, n.1, ap length e, length-append (depth ++ bytes " ") (act_text (Set i q b)), length-append depth (bytes " "))
line-least l c (acts depth (Look i q) n hi hq e x) =
    omega (arith, n.1, ap length e, length-append (depth ++ bytes " ") (act_text (Look i q)), length-append depth (bytes " "))

pub lines-least : (b s : List ℕ) → LinesOf s b → 7 * length b ≤ length s
lines-least [] s h = omega arith
lines-least (c ∷ b) s h =
    omega (
      arith,
      lines-least b h.1 h.4,
      line-least h.0 c h.2,
      ap length h.3,
      length-append (line h.0) h.1,
      length-append h.0 (10 ∷ []),
    )
