-- What `read` settles, and the two functions on the form of words: each follows from the meaning and the laws of a plan's lines. What a caller makes of the room
-- is said by `prints-whole` and `prints_part` (print_answer/proofs/Theorems).
use mathlib.Core.Path.{◌≡◌, refl, sym, ap, ap₂, ◌∙◌, subst}
use mathlib.Core.Logic.{◌⊎◌, inl, inr, ⊎_elim}
use mathlib.Core.List.{List, [], ◌∷◌, ◌++◌, append-nil}
use Prim.Native.Nat.{ℕ, suc, ◌+◌, ◌*◌, ◌^◌, ◌≤◌, ◌<◌}
use native.Mathlib.Omega.{arith}
use lib.ListN.{length, get_or, length-append}
use Rattle.ground.specs.Text.{bytes}
use Rattle.ground.proofs.Bools.{lt_or_ge}
use Rattle.refusal.specs.declared.Refusal.{Refusal}
use Rattle.refusal.specs.declared.Refusal.TheVariants.{SheetLength}
use Rattle.plan.specs.Plans.{Plan}
use Rattle.plan.specs.Bytes.{encode}
use Rattle.print_room.specs.Decimal.{decimal}
use Rattle.print_room.proofs.Decimals.{decimal-length}
use Rattle.print_answer.specs.Listed.{line, plan_text, Lettered}
use Rattle.print_answer.specs.Printed.{reach_text}
use Rattle.print_answer.proofs.Lengths.{plan-length, height-length}
use Rattle.sheet_words.specs.Words.{split, newline}
use Rattle.sheet_words.proofs.Split.{some_piece, joined_split}
use Rattle.plancheck_text.specs.Meaning.{Meaning, refused, plan, unless_stray, lines_meaning, plan_text_meaning, ReadsPlan}
use Rattle.plancheck_text.specs.Grammar.{LineOf, LinesOf, PlanTextOf, RefusedAt}
use Rattle.std.specs.Prelude.{Result, Ok, Err}
use Rattle.plancheck_text.proofs.TextLaws.{too_long, by_lines, reach_line, within}
use Rattle.plancheck_text.proofs.PlanTexts.{text-only, line_at, lines-least}
use Rattle.plancheck_text.proofs.StrayLines.{refusal_is, lines_stray}
use Rattle.plancheck_text.proofs.WrittenLines.{reach_clear, is_reach, line-split, lines-taken}
use Rattle.plancheck_text.proofs.PrintedLines.{decimal-number, plan-lines}
use Rattle.plancheck_text.proofs.line.has_form.Reads as has-form
use Rattle.plancheck_text.proofs.line.index.Reads as index

-- ---- a text is taken where it is written as the grammar says

pub taken : (s b : List ℕ) → PlanTextOf s b → length s ≤ 524288 → plan_text_meaning s ≡ plan b
taken s b p h =
    let first = bytes "reach " ++ p.height in
    let x = lines-taken b p.rest 2 p.lines in
    by_lines s h
    ∙ ap lines_meaning (ap (split newline) p.text ∙ line-split first p.rest (reach_clear p.height p.number))
    ∙ reach_line first p.rest (is_reach p.height p.number)
    ∙ ap₂ unless_stray x.0 x.1

-- what is printed reads back as the same plan
pub reads_back : (height : ℕ) (p : Plan) → Lettered p → length (reach_text height p) ≤ 524288 → plan_text_meaning (reach_text height p) ≡ plan (encode p)
reads_back height p l h = taken (reach_text height p) (encode p) (record {
  height = decimal height;
  number = decimal-number height;
  rest = plan_text 0 p;
  text = refl;
  lines = subst (λ (t : List ℕ). LinesOf t (encode p)) (append-nil (plan_text 0 p))
      (subst (LinesOf (plan_text 0 p ++ [])) (append-nil (encode p)) (plan-lines p 0 [] [] l refl));
}) h

-- and every plan of the length that the plan check takes, 32,640 bytes, has a text that is not too long: 12 bytes and 16 a line
pub printed-fits : (height : ℕ) (p : Plan) → height < 10 ^ 5 → length (encode p) ≤ 32640 → length (reach_text height p) ≤ 524288
printed-fits height p few most =
    simp length-append (omega (arith, decimal-length 4 height few, plan-length 4 0 p (omega (arith, height-length p, most))))

-- ---- and nowhere else

module _ (s b : List ℕ) (e : plan_text_meaning s ≡ plan b) where
  pub taken-only : PlanTextOf s b × (length s ≤ 524288)
  taken-only =
      let x = within s e in
      (subst (λ (t : List ℕ). PlanTextOf t b) (joined_split newline s) (text-only (split newline s) b x.1), x.0)

  -- "byte i is in line i + 2", the piece with index i + 1
  pub byte_in_line : (i : ℕ) → i < length b → LineOf (get_or (split newline s) (suc i) []) (get_or b i 0)
  byte_in_line i h =
      let p = taken-only.0 in
      let cut = ap (split newline) p.text ∙ line-split (bytes "reach " ++ p.height) p.rest (reach_clear p.height p.number) in
      rw cut (line_at b p.rest i p.lines h)

  -- a line has at least 7 bytes, `0 stop` and byte 10, and the first at least 8, `reach 0` and byte 10
  pub bytes-least : 7 * length b + 8 ≤ length s
  bytes-least =
      let p = taken-only.0 in
      let first = bytes "reach " ++ p.height in
      omega (
        arith,
        lines-least b p.rest p.lines,
        p.number.1,
        ap length p.text,
        length-append (line first) p.rest,
        length-append first (10 ∷ []),
        length-append (bytes "reach ") p.height,
      )

  -- so a room of 74,897 bytes always fits: 524,288 bytes less 8, by 7
  pub bytes_most : length b ≤ 74897
  bytes_most = omega (arith, bytes-least, taken-only.1)

-- ---- where it is refused

-- 24 for a text that is too long, and any other is 22 at its first stray line
pub stray_first : (s : List ℕ) (r : Refusal) → plan_text_meaning s ≡ refused r
    → ((r ≡ SheetLength) × (524288 < length s)) ⊎ ((length s ≤ 524288) × RefusedAt (split newline s) r)
stray_first s r e =
    ⊎_elim
    (λ (h : 524288 < length s). inl (refusal_is (sym (too_long s h) ∙ e), h))
    (λ (h : length s ≤ 524288).
    inr (h, lines_stray (split newline s) r (some_piece newline (λ q. 0 < length q) (λ p ps. omega arith) s) (sym (by_lines s h) ∙ e)))
    (lt_or_ge 524288 (length s))

-- ---- one result

pub read_one : (m : Meaning) (x y : Result ℕ Refusal) (old new other : List ℕ) → ReadsPlan m x old new → ReadsPlan m y old other → (x ≡ y) × (new ≡ other)
read_one (refused r) (Err why) (Err cause) old new other p q = (ap Err (p.0 ∙ sym q.0), p.1 ∙ sym q.1)
read_one (plan b) (Ok n) (Ok k) old new other p q = (ap Ok (p.count ∙ sym q.count), p.room ∙ sym q.room)
read_one (refused r) (Ok n) y old new other p q = elim p [ ]
read_one (refused r) (Err why) (Ok k) old new other p q = elim q [ ]
read_one (plan b) (Ok n) (Err cause) old new other p q = elim q [ ]
read_one (plan b) (Err why) y old new other p q = elim p [ ]

pub has_form_unique : (κs : _) (a : _) (x y : _) (s : _) → has-form.Post κs a x s → has-form.Post κs a y s → x ≡ y
has_form_unique κs a x y s p q = p ∙ sym q

pub index_unique : (κs : _) (a : _) (x y : _) (s : _) → index.Post κs a x s → index.Post κs a y s → x ≡ y
index_unique κs a x y s p q = p ∙ sym q
