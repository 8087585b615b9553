-- A text that is written as the grammar says is taken for its bytes; and a shift whose records text can say has such a text. By induction on the lines, and on
-- the records.
use mathlib.Core.Path.{◌≡◌, refl, sym, ap, ap₂, ◌∙◌, subst}
use mathlib.Core.Bool.{Bool, true, false, cond}
use mathlib.Core.List.{List, [], ◌∷◌, ◌++◌}
use Prim.Native.Nat.{ℕ, suc, ◌+◌, ◌*◌, ◌≤◌}
use native.Mathlib.Omega.{arith}
use lib.Dec.{T, eqb→eq}
use lib.ListN.{length, length-append}
use Rattle.ground.proofs.Bools.{true→T, T→true}
use Rattle.knowledge_acts.specs.Acts.{act_of}
use Rattle.knowledge_acts.specs.declared.act.Act.TheVariants.{Set, Look}
use Rattle.knowledge_acts.specs.declared.act.Act.{Act}
use Rattle.std.specs.Prelude.{Option, Some, None}
use Rattle.print_answer.specs.Listed.{line}
use Rattle.sheet_words.specs.Words.{split, newline, passed_over}
use Rattle.sheet_words.proofs.Split.{Clear, AllClear, split-clear}
use Rattle.plancheck_text.specs.Lines.{stands_for, has_form}
use Rattle.plancheck_text.proofs.WrittenLines.{line-split}
use Rattle.station_text.specs.Records.{seen_in, is_record, words_of, record_text}
use Rattle.station_text.specs.Lines.{is_look, is_set, gives_record, is_line, line_record}
use Rattle.station_text.specs.Meaning.{stray_line, lines_bytes, records_said, shift_text}
use Rattle.station_text.specs.Grammar.{ShiftTextOf, ended, passing, saying}
use Rattle.station_text.proofs.LineLaws.{line_by, given-line, record_by}
use Rattle.station_text.proofs.TextLaws.{stray_line_lem, bytes-line}
use Rattle.station_text.proofs.RecordLines.{record_taken}

-- ---- one line

-- a line that is passed over gives no record
pub passed_none : (l : List ℕ) → T (passed_over l) → gives_record l ≡ false
unfolding passed_over gives_record is_look is_set has_form stands_for
passed_none [] h = refl
passed_none (c ∷ l) h = subst (λ (d : ℕ). gives_record (d ∷ l) ≡ false) (sym (eqb→eq c 35 h)) refl

one_line : (l : List ℕ) → split newline l ≡ l ∷ [] → Clear newline l
one_line l e = (subst (AllClear newline) e (split-clear newline l)).0

-- a line and the text after it, by what the line's tests say
module _ (l s : List ℕ) (clear : Clear newline l) (is-line : is_line l ≡ true) {own b : List ℕ} (gives : line_record l ≡ own) where
  one_more : (L : ℕ) → (stray_line (suc L) (split newline s) ≡ None) × (lines_bytes (split newline s) ≡ b)
      → (stray_line L (split newline (line l ++ s)) ≡ None) × (lines_bytes (split newline (line l ++ s)) ≡ own ++ b)
  one_more L later = let cut = line-split l s clear in (
    ap (stray_line L) cut ∙ stray_line_lem l s L is-line ∙ later.0,
    ap lines_bytes cut ∙ bytes-line l s ∙ ap₂ ◌++◌ gives later.1,
  )

-- ---- all lines

pub lines-taken : {s b : List ℕ} → ShiftTextOf s b → (L : ℕ) → (stray_line L (split newline s) ≡ None) × (lines_bytes (split newline s) ≡ b)
unfolding split stray_line lines_bytes
lines-taken ended L = (refl, refl)
lines-taken (passing l {s} h e p) L =
    one_more l s (one_line l e) (line_by l true _ (T→true (passed_over l) h) refl) (record_by l false (passed_none l h)) L (lines-taken p (suc L))
lines-taken (saying c v {s} h p) L =
    let t = record_taken c v h in
    one_more (record_text c v) s t.clear (given-line (record_text c v) t.is-given) t.is_record_case L (lines-taken p (suc L))

-- ---- a shift whose records text can say

pub text_of : (b : List ℕ) → length b ≤ 2 * records_said b → ShiftTextOf (shift_text b) b
unfolding records_said shift_text
text_of [] h = ended
text_of (c ∷ []) h = absurd (omega arith)
text_of (c ∷ v ∷ more) h = by_test (is_record c v) refl h (text_of more)
  where
    by_test : (a : Bool) → is_record c v ≡ a → suc (suc (length more)) ≤ 2 * cond a (suc (records_said more)) 0
        → (length more ≤ 2 * records_said more → ShiftTextOf (shift_text more) more) → ShiftTextOf (line (record_text c v) ++ shift_text more) (c ∷ v ∷ more)
    by_test true e h later = saying c v (true→T e) (later (omega arith))
    by_test false e h later = absurd (omega arith)

-- ---- what a text says of its shift

pub all_said : {s b : List ℕ} → ShiftTextOf s b → 2 * records_said b ≡ length b
unfolding records_said
all_said ended = refl
all_said (passing l h e p) = all_said p
all_said (saying c v {b = b} h p) =
    ap (λ (a : Bool). 2 * cond a (suc (records_said b)) 0) (T→true (is_record c v) h) ∙ omega (arith, all_said p)

-- `set a 1 0`
text-least : (c v : ℕ) → T (is_record c v) → 9 ≤ length (record_text c v)
unfolding is_record record_text
text-least c v h = by_act (act_of c) h
  where
    by_act : (n : Option Act) → T (seen_in n v) → 9 ≤ length (words_of n v)
    by_act None h = absurd h
    by_act (Some (Set i q b)) h = omega arith
    by_act (Some (Look i q)) h = omega arith

line-length : (l s : List ℕ) → length (line l ++ s) ≡ length l + 1 + length s
line-length l s = simp length-append (omega arith)

-- no other text of it is shorter than the one that is printed
pub shortest : {s b : List ℕ} → ShiftTextOf s b → length (shift_text b) ≤ length s
unfolding shift_text
shortest ended = omega arith
shortest (passing l {s} h e p) = omega (arith, shortest p, line-length l s)
shortest (saying c v {s} {b} h p) = omega (arith, shortest p, line-length (record_text c v) s, line-length (record_text c v) (shift_text b))

-- two bytes a line of at least ten
pub bytes-least : {s b : List ℕ} → ShiftTextOf s b → 5 * length b ≤ length s
bytes-least ended = omega arith
bytes-least (passing l {s} h e p) = omega (arith, bytes-least p, line-length l s)
bytes-least (saying c v {s} h p) = omega (arith, bytes-least p, line-length (record_text c v) s, text-least c v h)
