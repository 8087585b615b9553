-- A shift's bytes, a record at a time: what is left from a place on is the record that begins there and what is left after it. Then the whole shift.
use mathlib.Core.Path.{◌≡◌, refl, sym, ap, ◌∙◌}
use mathlib.Core.Bool.{Bool, not, cond}
use mathlib.Core.List.{List, [], ◌∷◌, ◌++◌}
use Prim.Native.Nat.{ℕ, suc, ◌+◌, ◌/◌, ◌%◌, ◌≤◌, ◌<◌}
use native.Mathlib.Numerals.{add-one}
use native.Mathlib.Omega.{arith}
use lib.Dec.{ltb}
use lib.ListN.{length, get_or, drop, length-drop}
use lib.Seq.{drop-cons}
use borrow.Author.Tests.{lt-ltb, le-ltb, eq-eqb, ne_eqb}
use Rattle.knowledge_acts.specs.Acts.{act_of}
use Rattle.knowledge_acts.specs.declared.act.Act.TheVariants.{Set, Look}
use Rattle.knowledge_acts.specs.declared.act.Act.{Act}
use Rattle.std.specs.Prelude.{Option, Some, None}
use Rattle.refusal.specs.declared.Refusal.TheVariants.{SheetLength, Shift, NoRecord}
use Rattle.print_answer.specs.Listed.{line}
use Rattle.station_text.specs.Records.{is_record, words_of, record_text}
use Rattle.station_text.specs.Meaning.{refused, gives, records_said, shift_text, print_meaning}
use Rattle.station_text.proofs.ToldLaws.{refused_by, passed_by}

-- ---- one record

-- `look g 8 1`
pub text-most : (c v : ℕ) → length (record_text c v) ≤ 10
unfolding record_text
text-most c v = by_act (act_of c)
  where
    by_act : (n : Option Act) → length (words_of n v) ≤ 10
    by_act None = omega arith
    by_act (Some (Set i q b)) = omega arith
    by_act (Some (Look i q)) = omega arith

-- ---- from a place on

module _ (s : List ℕ) (at : ℕ) where
  -- a whole record
  module _ (h : at + 1 < length s) where
    two : drop at s ≡ get_or s at 0 ∷ get_or s (at + 1) 0 ∷ drop (at + 2) s
    two =
        drop-cons s at 0 (omega arith)
        ∙ ap (λ (t : List ℕ). get_or s at 0 ∷ t)
        (ap (λ (i : ℕ). drop i s) (sym (add-one at)) ∙ drop-cons s (at + 1) 0 h ∙ ap (λ (i : ℕ). get_or s (at + 1) 0 ∷ drop i s) {x = suc (at + 1)} {y = at + 2} (omega arith))

    pub said_turn : {b : Bool} → is_record (get_or s at 0) (get_or s (at + 1) 0) ≡ b → records_said (drop at s) ≡ cond b (suc (records_said (drop (at + 2) s))) 0
    unfolding records_said
    said_turn e = ap records_said two ∙ ap (λ (b : Bool). cond b (suc (records_said (drop (at + 2) s))) 0) e

    pub text_turn : shift_text (drop at s) ≡ line (record_text (get_or s at 0) (get_or s (at + 1) 0)) ++ shift_text (drop (at + 2) s)
    unfolding shift_text
    text_turn = ap shift_text two

  -- less than one
  module _ (h : length s ≤ at + 1) where
    pub said_end : records_said (drop at s) ≡ 0
    unfolding records_said
    said_end = none (drop at s) (omega (arith, length-drop at s))
      where
        none : (t : List ℕ) → length t ≤ 1 → records_said t ≡ 0
        none [] h = refl
        none (c ∷ []) h = refl
        none (c ∷ v ∷ t) h = absurd (omega arith)

    pub text_end : shift_text (drop at s) ≡ []
    unfolding shift_text
    text_end = none (drop at s) (omega (arith, length-drop at s))
      where
        none : (t : List ℕ) → length t ≤ 1 → shift_text t ≡ []
        none [] h = refl
        none (c ∷ []) h = refl
        none (c ∷ v ∷ t) h = absurd (omega arith)

-- ---- the whole shift

module _ (s : List ℕ) where
  pub too_long : 2097152 < length s → print_meaning s ≡ refused SheetLength
  unfolding print_meaning
  too_long h = refused_by _ _ _ (lt-ltb 2097152 (length s) h)

  module _ (fits : length s ≤ 2097152) where
    pub odd_length : (length s % 2 ≡ 0 → ⊥) → print_meaning s ≡ refused Shift
    unfolding print_meaning
    odd_length h = passed_by _ _ _ (le-ltb 2097152 (length s) fits) ∙ refused_by _ _ _ (ap not (ne_eqb (length s % 2) 0 h))

    module _ (even : length s % 2 ≡ 0) (said : ℕ) (e : records_said s ≡ said) where
      pub with_stray : said < length s / 2 → print_meaning s ≡ refused (NoRecord said)
      unfolding print_meaning
      with_stray h =
          passed_by _ _ _ (le-ltb 2097152 (length s) fits) ∙ passed_by _ _ _ (ap not (eq-eqb (length s % 2) 0 even))
          ∙ refused_by _ _ _ (ap (λ (n : ℕ). ltb n (length s / 2)) e ∙ lt-ltb said (length s / 2) h) ∙ ap (λ (n : ℕ). refused (NoRecord n)) e

      module _ (all : length s / 2 ≤ said) where
        pub text_too_long : 2097152 < length (shift_text s) → print_meaning s ≡ refused SheetLength
        unfolding print_meaning
        text_too_long h =
            passed_by _ _ _ (le-ltb 2097152 (length s) fits) ∙ passed_by _ _ _ (ap not (eq-eqb (length s % 2) 0 even))
            ∙ passed_by _ _ _ (ap (λ (n : ℕ). ltb n (length s / 2)) e ∙ le-ltb said (length s / 2) all)
            ∙ refused_by _ _ _ (lt-ltb 2097152 (length (shift_text s)) h)

        pub prints-text : length (shift_text s) ≤ 2097152 → print_meaning s ≡ gives (shift_text s)
        unfolding print_meaning
        prints-text h =
            passed_by _ _ _ (le-ltb 2097152 (length s) fits) ∙ passed_by _ _ _ (ap not (eq-eqb (length s % 2) 0 even))
            ∙ passed_by _ _ _ (ap (λ (n : ℕ). ltb n (length s / 2)) e ∙ le-ltb said (length s / 2) all)
            ∙ passed_by _ _ _ (le-ltb 2097152 (length (shift_text s)) h)
