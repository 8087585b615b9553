-- What `read`, `print`, `line_of` and `is_text` settle: each follows from the meanings and the laws of lines and records. What a caller makes of the room is said by
-- `prints-whole` and `prints_part` (print_answer/proofs/Theorems).
use mathlib.Core.Path.{◌≡◌, refl, sym, ap, ap₂, ◌∙◌, subst}
use mathlib.Core.Logic.{⊎_elim}
use mathlib.Core.Bool.{true, false, ◌||◌}
use mathlib.Core.List.{List}
use Prim.Native.Nat.{ℕ, ◌*◌, ◌/◌, ◌%◌, ◌≤◌, ◌<◌}
use native.Mathlib.Omega.{arith}
use lib.Dec.{T}
use lib.ListN.{length, get_or, take, drop, get_or-append}
use borrow.Author.Tests.{ltb-false, eqb-true, not-false}
use Rattle.ground.specs.Text.{bytes}
use Rattle.ground.proofs.Bools.{true→T, T→true, or_out}
use Rattle.knowledge_acts.specs.Acts.{act_of}
use Rattle.refusal.specs.declared.Refusal.TheVariants.{NoRecord}
use Rattle.print_answer.proofs.Theorems.{prints-whole}
use Rattle.sheet_words.specs.Words.{split, newline, begins}
use Rattle.sheet_words.proofs.Split.{joined_split, split-clear}
use Rattle.sheet_words.proofs.Fronts.{begins-length}
use Rattle.plancheck_text.proofs.ReadLines.{begins_then}
use Rattle.station_text.specs.Records.{is_record}
use Rattle.station_text.specs.Meaning.{Meaning, refused, gives, lines_bytes, read_meaning, line_of, records_said, shift_text, print_meaning, Tells, is_text}
use Rattle.station_text.specs.Grammar.{ShiftTextOf, GivesAt}
use Rattle.std.specs.Prelude.{Some, None, Result, Ok, Err}
use Rattle.refusal.specs.declared.Refusal.{Refusal}
use Rattle.station_text.proofs.TextLaws.{without_stray}
use Rattle.station_text.proofs.BytesLaws.{said_turn, with_stray, prints-text}
use Rattle.station_text.proofs.WrittenText.{lines-taken, text_of, all_said, shortest, bytes-least}
use Rattle.station_text.proofs.ReadText.{lines-only, not-refused, no_stray}
use Rattle.station_text.proofs.LineNumbers.{gives_at, find_none}
use Rattle.station_text.proofs.text.read.Reads as read
use Rattle.station_text.proofs.bytes.print.Reads as print
use Rattle.station_text.proofs.is_text.Reads as is-text
use Rattle.station_text.proofs.record.is_record.Reads as is_record_case
use Rattle.station_text.proofs.text.line_of.Reads as Line-of

-- ---- a text is taken where it is written as the grammar says, and nowhere else

pub taken : {s b : List ℕ} → ShiftTextOf s b → length s ≤ 2097152 → read_meaning s ≡ gives b
taken {s} p h = let x = lines-taken p 1 in without_stray s h x.0 ∙ ap gives x.1

pub taken-only : (s b : List ℕ) → read_meaning s ≡ gives b → ShiftTextOf s b × (length s ≤ 2097152)
unfolding read_meaning
taken-only s b e =
    let x = not-refused _ _ _ e in
    let y = no_stray _ _ x.1 in
    let own : lines_bytes (split newline s) ≡ b = cc y.1 in (
      subst (ShiftTextOf s) own
          (subst (λ (t : List ℕ). ShiftTextOf t (lines_bytes (split newline s))) (joined_split newline s)
          (lines-only 1 (split newline s) (split-clear newline s) y.0)),
      ltb-false 2097152 (length s) x.0,
    )

-- two bytes for a line of at least ten, so a room of 419,430 bytes always fits: 2 × (2,097,152 / 10)
pub bytes_most : (s b : List ℕ) → read_meaning s ≡ gives b → length b ≤ 419430
bytes_most s b e = let x = taken-only s b e in omega (arith, bytes-least x.0, x.1)

-- ---- what is printed is read back

-- what is not refused is the text of the shift, which can be read
pub printed-only : (b t : List ℕ) → print_meaning b ≡ gives t → ShiftTextOf t b × (length t ≤ 2097152)
unfolding print_meaning
printed-only b t e =
    let even = not-refused _ _ _ (not-refused _ _ _ e).1 in
    let whole = eqb-true (length b % 2) 0 (not-false _ even.0) in
    let all = not-refused _ _ _ even.1 in
    let fits = not-refused _ _ _ all.1 in
    let own : shift_text b ≡ t = cc fits.1 in
    subst (λ (u : List ℕ). ShiftTextOf u b × (length u ≤ 2097152)) own
    (text_of b (omega (arith, whole, ltb-false (records_said b) (length b / 2) all.0)), ltb-false 2097152 (length (shift_text b)) fits.0)

pub reads_back : (b t : List ℕ) → print_meaning b ≡ gives t → read_meaning t ≡ gives b
reads_back b t e = let x = printed-only b t e in taken x.0 x.1

-- and so is what the room holds, where it holds the whole text
pub room-reads_back : (b old new : List ℕ) (n : ℕ) → Tells (print_meaning b) (Ok n) old new → n ≤ length old → read_meaning (take n new) ≡ gives b
room-reads_back b old new n p h = by_meaning (print_meaning b) refl p
  where
    by_meaning : (m : Meaning) → print_meaning b ≡ m → Tells m (Ok n) old new → read_meaning (take n new) ≡ gives b
    by_meaning (refused r) e p = absurd p
    by_meaning (gives t) e p = ap read_meaning (prints-whole p h) ∙ reads_back b t e

-- ---- what is read can be printed, and is read back

module _ (s b : List ℕ) (e : read_meaning s ≡ gives b) where
  pub prints_back : print_meaning b ≡ gives (shift_text b)
  prints_back =
      let x = taken-only s b e in
      let all = all_said x.0 in
      prints-text b (omega (arith, bytes_most s b e)) (omega (arith, all)) (records_said b) refl (omega (arith, all)) (omega (arith, shortest x.0, x.1))

  pub reads-again : read_meaning (shift_text b) ≡ gives b
  reads-again = reads_back b (shift_text b) prints_back

-- ---- the line of a record

-- for a text that is taken the bytes of all lines are the shift's
pub bytes-given : (s b : List ℕ) → read_meaning s ≡ gives b → lines_bytes (split newline s) ≡ b
bytes-given s b e = (lines-taken (taken-only s b e).0 1).1

module _ (s : List ℕ) (k : ℕ) where
  pub line_gives : 2 * k < length (lines_bytes (split newline s)) → (M : ℕ) × (line_of 1 k (split newline s) ≡ Some M) × GivesAt (split newline s) k M
  line_gives h = gives_at (split newline s) k h

  pub line-none : length (lines_bytes (split newline s)) ≤ 2 * k → line_of 1 k (split newline s) ≡ None
  line-none h = find_none (split newline s) 1 k h

-- ---- text is not taken for bytes

-- `lo`, `se` and `# ` are no records
pub text_no_record : (s : List ℕ) → is_text s ≡ true → (2 ≤ length s) × (is_record (get_or s 0 0) (get_or s 1 0) ≡ false)
unfolding is_text is_record act_of
text_no_record s e =
    let x = begins (bytes "look ") s in
    let y = begins (bytes "set ") s in
    let z = begins (bytes "# ") s in
    ⊎_elim
    (λ (h : T (x || y)).
    ⊎_elim
    (λ (i : T x). by_front (bytes "look ") (omega arith) (T→true x i) refl)
    (λ (i : T y). by_front (bytes "set ") (omega arith) (T→true y i) refl)
    (or_out x y h))
    (λ (h : T z). by_front (bytes "# ") (omega arith) (T→true z h) refl)
    (or_out (x || y) z (true→T e))
  where
    by_front : (w : List ℕ) → 2 ≤ length w → begins w s ≡ true → is_record (get_or w 0 0) (get_or w 1 0) ≡ false
        → (2 ≤ length s) × (is_record (get_or s 0 0) (get_or s 1 0) ≡ false)
    by_front w h e none =
        let at : (i : ℕ) → i < length w → get_or s i 0 ≡ get_or w i 0 =
        λ i k. ap (λ (t : List ℕ). get_or t i 0) (begins_then w s e) ∙ get_or-append w (drop (length w) s) 0 i k in
        (omega (arith, h, begins-length w s e), ap₂ is_record (at 0 (omega arith)) (at 1 (omega arith)) ∙ none)

-- so as bytes it is refused: 27 at the first record, where the length is even and not too long
pub text_no_bytes : (s : List ℕ) → is_text s ≡ true → length s ≤ 2097152 → length s % 2 ≡ 0 → print_meaning s ≡ refused (NoRecord 0)
text_no_bytes s e fits even =
    let x = text_no_record s e in
    with_stray s fits even 0 (said_turn s 0 (omega (arith, x.0)) x.1) (omega (arith, x.0))

-- ---- one result

pub told-one : (m : Meaning) (x y : Result ℕ Refusal) (old new other : List ℕ) → Tells m x old new → Tells m y old other → (x ≡ y) × (new ≡ other)
told-one (refused r) (Err why) (Err cause) old new other p q = (ap Err (p.0 ∙ sym q.0), p.1 ∙ sym q.1)
told-one (gives b) (Ok n) (Ok k) old new other p q = (ap Ok (p.count ∙ sym q.count), p.room ∙ sym q.room)
told-one (refused r) (Ok n) y old new other p q = elim p [ ]
told-one (refused r) (Err why) (Ok k) old new other p q = elim q [ ]
told-one (gives b) (Ok n) (Err cause) old new other p q = elim q [ ]
told-one (gives b) (Err why) y old new other p q = elim p [ ]

pub read_unique : (κs : _) (a : _) (x y : _) (s : _) → read.Post κs a x s → read.Post κs a y s → x ≡ y
read_unique κs a x y s p q = (told-one (read_meaning a.0.now) x y a.1.0.now s.1.0.now s.1.0.now p q).0

pub print_unique : (κs : _) (a : _) (x y : _) (s : _) → print.Post κs a x s → print.Post κs a y s → x ≡ y
print_unique κs a x y s p q = (told-one (print_meaning a.0.now) x y a.1.0.now s.1.0.now s.1.0.now p q).0

pub is-text_unique : (κs : _) (a : _) (x y : _) (s : _) → is-text.Post κs a x s → is-text.Post κs a y s → x ≡ y
is-text_unique κs a x y s p q = p ∙ sym q

pub is_record_unique : (κs : _) (a : _) (x y : _) (s : _) → is_record_case.Post κs a x s → is_record_case.Post κs a y s → x ≡ y
is_record_unique κs a x y s p q = p ∙ sym q

pub line_of_unique : (κs : _) (a : _) (x y : _) (s : _) → Line-of.Post κs a x s → Line-of.Post κs a y s → x ≡ y
line_of_unique κs a x y s p q = p ∙ sym q
