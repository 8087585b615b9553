-- A line that is written as the grammar says is taken for its byte: a depth's digits end at the space, and the words after it have the form of their act alone.
-- So lines give their bytes, by induction on the bytes.
use mathlib.Core.Path.{◌≡◌, refl, sym, ap, ap₂, ◌∙◌}
use mathlib.Core.Bool.{Bool, true, false, ◌&&◌, ◌||◌, cond}
use mathlib.Core.List.{List, [], ◌∷◌, ◌++◌, append_assoc, append-nil}
use Rattle.std.specs.Prelude.{None}
use Prim.Native.Nat.{ℕ, suc, ◌+◌, ◌-◌, ◌<◌}
use native.Mathlib.Omega.{arith}
use lib.Dec.{ltb, eqb, ltb→lt}
use lib.ListN.{length, drop}
use lib.Seq.{drop-append_seam}
use borrow.Author.Tests.{lt-ltb, eq-eqb}
use Rattle.ground.specs.Text.{bytes}
use Rattle.ground.proofs.Bools.{true→T, T→true, and_left, and_right}
use Rattle.knowledge_acts.specs.Acts.{byte_of, plan_byte}
use Rattle.knowledge_acts.specs.declared.act.Act.TheVariants.{Set, Look}
use Rattle.knowledge_acts.proofs.Acts.{plan-byte}
use Rattle.print_room.specs.Decimal.{AllDigits}
use Rattle.print_answer.specs.Listed.{line, value_digit, act_text}
use Rattle.sheet_words.specs.Words.{split, newline, among, begins}
use Rattle.sheet_words.proofs.Split.{Clear, split-marked}
use Rattle.sheet_words.proofs.NameForms.{among_in}
use Rattle.plancheck_text.specs.Lines.{digit_count, is_number, is_reach_line, stands_for, has_form, is_stop, is_look, is_set, words_byte}
use Rattle.plancheck_text.specs.Lines.{after_depth, is_plan_line, line_byte}
use Rattle.plancheck_text.specs.Meaning.{stray_line, line_bytes}
use Rattle.plancheck_text.specs.Grammar.{Number, LineOf, stops, acts, LinesOf}
use Rattle.plancheck_text.proofs.LineLaws.{number_by, reach_by, byte_by, plan-line_by}
use Rattle.plancheck_text.proofs.TextLaws.{stray_line_lem, byte-line}

-- ---- bytes that are no line's end

abbrev pub above : List ℕ → Bool
above [] = true
above (c ∷ s) = ltb 10 c && above s

pub above-clear : (s : List ℕ) → above s ≡ true → Clear newline s
above-clear [] e = tt
above-clear (c ∷ s) e =
    let t = true→T {a = ltb 10 c && above s} e in
    ((λ x. omega (arith, x, ltb→lt 10 c (and_left (ltb 10 c) (above s) t))), above-clear s (T→true (above s) (and_right (ltb 10 c) (above s) t)))

-- ---- numbers

clear-digits : (s : List ℕ) → AllDigits s → Clear newline s
clear-digits [] h = tt
clear-digits (c ∷ s) h = ((λ e. omega (arith, h.0, e)), clear-digits s h.2)

clear-append : (s t : List ℕ) → Clear newline s → Clear newline t → Clear newline (s ++ t)
clear-append [] t h k = k
clear-append (c ∷ s) t h k = (h.0, clear-append s t h.1 k)

-- the digits end where no digit follows
digits_append : (s t : List ℕ) → AllDigits s → digit_count t ≡ 0 → digit_count (s ++ t) ≡ length s
unfolding digit_count
digits_append [] t h e = e
digits_append (c ∷ s) t h e =
    ap (λ (b : Bool). cond b (suc (digit_count (s ++ t))) 0) (T→true (among 48 10 c) (among_in 48 10 c h.0 (omega (arith, h.1))))
    ∙ ap suc (digits_append s t h.2 e)

module _ (n : List ℕ) (h : Number n) where
  is-number : is_number n ≡ true
  unfolding digit_count
  is-number =
      number_by n true true (lt-ltb 0 (length n) h.1)
      (eq-eqb (digit_count n) (length n) (ap digit_count (sym (append-nil n)) ∙ digits_append n [] h.0 refl))

  pub reach_clear : Clear newline (bytes "reach " ++ n)
  reach_clear = clear-append (bytes "reach ") n (above-clear (bytes "reach ") refl) (clear-digits n h.0)

  pub is_reach : is_reach_line (bytes "reach " ++ n) ≡ true
  unfolding begins
  is_reach = reach_by (bytes "reach " ++ n) true true refl is-number

-- ---- words

-- these words, after a depth and a space, are those of this plan byte
record PlanWords (w : List ℕ) (b : ℕ) : Type 0 where
  form : (is_stop (32 ∷ w) || is_look (32 ∷ w) || is_set (32 ∷ w)) ≡ true
  says : words_byte (32 ∷ w) ≡ b
  clear : Clear newline w

stop_words : PlanWords (bytes "stop") 0
unfolding is_stop has_form stands_for words_byte
stop_words = record { form = refl; says = refl; clear = above-clear (bytes "stop") refl }

-- what P, G and V stand for
pub sign_of : (first count i : ℕ) → i < count → among first count (first + i) ≡ true
sign_of first count i h = T→true (among first count (first + i)) (among_in first count (first + i) (omega arith) (omega arith))

pub index_of : (first i : ℕ) → first + i - first ≡ i
index_of first i = omega arith

pub value-fits : (b : Bool) → among 48 2 (value_digit b) ≡ true
unfolding among
value-fits true = refl
value-fits false = refl

pub value_read : (b : Bool) → eqb (value_digit b) 49 ≡ b
value_read true = refl
value_read false = refl

pub value-past : (b : Bool) → 10 < value_digit b
value-past true = omega arith
value-past false = omega arith

module _ (i q : ℕ) (hi : i < 7) (hq : q < 8) where
  look_words : PlanWords (act_text (Look i q)) (byte_of (Look i q))
  unfolding is_stop is_look has_form stands_for
  look_words = record {
    form = rw (sign_of 97 7 i hi, sign_of 49 8 q hq) refl;
    says =
        byte_by (32 ∷ act_text (Look i q)) false true refl (rw (sign_of 97 7 i hi, sign_of 49 8 q hq) refl)
        ∙ ap plan_byte (ap₂ Look (index_of 97 i) (index_of 49 q)) ∙ plan-byte (Look i q) hi hq;
    clear = above-clear (act_text (Look i q)) (rw (lt-ltb 10 (97 + i) (omega arith), lt-ltb 10 (49 + q) (omega arith)) refl);
  }

  set_words : (b : Bool) → PlanWords (act_text (Set i q b)) (byte_of (Set i q b))
  unfolding is_stop is_look is_set has_form stands_for
  set_words b = record {
    form = rw (sign_of 97 7 i hi, sign_of 49 8 q hq, value-fits b) refl;
    says =
        byte_by (32 ∷ act_text (Set i q b)) false false refl refl
        ∙ ap plan_byte
        (ap₂ (λ (j k : ℕ). Set j k (eqb (value_digit b) 49)) (index_of 97 i) (index_of 49 q)
        ∙ ap (Set i q) (value_read b))
        ∙ plan-byte (Set i q b) hi hq;
    clear = above-clear (act_text (Set i q b)) (rw (lt-ltb 10 (97 + i) (omega arith), lt-ltb 10 (49 + q) (omega arith), lt-ltb 10 (value_digit b) (value-past b)) refl);
  }

-- ---- lines

-- a line and what follows it
pub line-split : (s t : List ℕ) → Clear newline s → split newline (line s ++ t) ≡ s ∷ split newline t
line-split s t h = ap (split newline) (append_assoc s (10 ∷ []) t) ∙ split-marked newline s t h

-- what the tests make of a line
pub record Taken (l : List ℕ) (c : ℕ) : Type 0 where
  pub is-line : is_plan_line l ≡ true
  pub is_byte : line_byte l ≡ c
  pub clear : Clear newline l

module _ (depth : List ℕ) (number : Number depth) (w : List ℕ) {c : ℕ} (h : PlanWords w c) where
  count : digit_count (depth ++ bytes " " ++ w) ≡ length depth
  unfolding digit_count among
  count = ap digit_count (append_assoc depth (bytes " ") w) ∙ digits_append depth (32 ∷ w) number.0 refl

  after : after_depth (depth ++ bytes " " ++ w) ≡ 32 ∷ w
  unfolding after_depth
  after =
      ap (λ (n : ℕ). drop n (depth ++ bytes " " ++ w)) count
      ∙ ap (drop (length depth)) (append_assoc depth (bytes " ") w) ∙ drop-append_seam depth (32 ∷ w)

  words_taken : Taken (depth ++ bytes " " ++ w) c
  unfolding line_byte
  words_taken = record {
    is-line =
        plan-line_by (depth ++ bytes " " ++ w) true true (ap (ltb 0) count ∙ lt-ltb 0 (length depth) number.1)
        (ap (λ (s : List ℕ). is_stop s || is_look s || is_set s) after ∙ h.form);
    is_byte = ap words_byte after ∙ h.says;
    clear =
        clear-append (depth ++ bytes " ") w (clear-append depth (bytes " ") (clear-digits depth number.0) (above-clear (bytes " ") refl)) h.clear;
  }

pub line_taken : (l : List ℕ) (c : ℕ) → LineOf l c → Taken l c
line_taken l c (stops depth number e x) = rw (e, x) (words_taken depth number (bytes "stop") stop_words)
line_taken l c (acts depth (Set i q b) number hi hq e x) = rw (e, x) (words_taken depth number (act_text (Set i q b)) (set_words i q hi hq b))
line_taken l c (acts depth (Look i q) number hi hq e x) = rw (e, x) (words_taken depth number (act_text (Look i q)) (look_words i q hi hq))

pub lines-taken : (b s : List ℕ) (L : ℕ) → LinesOf s b → (stray_line L (split newline s) ≡ None) × (line_bytes (split newline s) ≡ b)
unfolding split stray_line line_bytes
lines-taken [] s L e = (ap (λ (t : List ℕ). stray_line L (split newline t)) e, ap (λ (t : List ℕ). line_bytes (split newline t)) e)
lines-taken (c ∷ b) s L h =
    let t = line_taken h.0 c h.2 in
    let cut = ap (split newline) h.3 ∙ line-split h.0 h.1 t.clear in
    let later = lines-taken b h.1 (suc L) h.4 in (
      ap (stray_line L) cut ∙ stray_line_lem h.0 h.1 L t.is-line ∙ later.0,
      ap line_bytes cut ∙ byte-line h.0 h.1 ∙ ap₂ ◌∷◌ t.is_byte later.1,
    )
