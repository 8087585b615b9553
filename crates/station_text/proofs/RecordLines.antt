-- The words of a record are a line that gives it, and no other line gives a record: each form spells the words of one act, and an act and its byte name one
-- another.
use mathlib.Core.Path.{◌≡◌, refl, sym, ap, ap₂, ◌∙◌, subst}
use mathlib.Core.Logic.{⊎_elim}
use mathlib.Core.Bool.{Bool, true, false}
use mathlib.Core.List.{List, [], ◌∷◌, ◌++◌}
use Prim.Native.Nat.{ℕ, zero, suc, ◌+◌, ◌-◌, ◌≤◌, ◌<◌}
use native.Mathlib.Omega.{arith}
use lib.Dec.{T, eqb, leb, eqb→eq, leb→le}
use borrow.Author.Tests.{lt-ltb}
use Rattle.ground.specs.Text.{bytes}
use Rattle.ground.proofs.Bools.{true→T, T→true, or_out}
use Rattle.knowledge_acts.specs.Acts.{byte_of, plan_byte, act_of}
use Rattle.knowledge_acts.specs.declared.act.Act.TheVariants.{Set, Look}
use Rattle.knowledge_acts.specs.declared.act.Act.{Act}
use Rattle.std.specs.Prelude.{Option, Some, None}
use Rattle.knowledge_acts.proofs.Acts.{act_of_byte, byte_of_act, plan-byte}
use Rattle.print_answer.specs.Listed.{value_digit}
use Rattle.sheet_words.specs.Words.{newline}
use Rattle.sheet_words.proofs.Split.{Clear}
use Rattle.plancheck_text.specs.Lines.{stands_for, has_form}
use Rattle.plancheck_text.proofs.WrittenLines.{above, above-clear, sign_of, index_of, value-fits, value_read, value-past}
use Rattle.plancheck_text.proofs.ReadLines.{form_head, form_end, plain, form_plain, value-is, names_are}
use Rattle.station_text.specs.Records.{seen_in, is_record, names, words_of, record_text}
use Rattle.station_text.specs.Lines.{is_look, is_set, gives_record, line_act, line_seen, line_record}
use Rattle.station_text.proofs.LineLaws.{gives_by, act_by, seen_by, record_by}

-- ---- the words of a record give it

-- what the tests make of a line
pub record Taken (l : List ℕ) (c v : ℕ) : Type 0 where
  pub is-given : gives_record l ≡ true
  pub is_record_case : line_record l ≡ c ∷ v ∷ []
  pub clear : Clear newline l

taken_by : (l : List ℕ) {c v : ℕ} → gives_record l ≡ true → line_act l ≡ c → line_seen l ≡ v → Clear newline l → Taken l c v
taken_by l e x y clear = record { is-given = e; is_record_case = record_by l true e ∙ ap₂ (λ (a b : ℕ). a ∷ b ∷ []) x y; clear = clear }

-- the digit of what was seen
seen_digit : (v : ℕ) → v ≤ 1 → value_digit (eqb v 1) - 48 ≡ v
seen_digit zero h = refl
seen_digit (suc zero) h = refl
seen_digit (suc (suc v)) h = absurd (omega arith)

module _ (i q : ℕ) (hi : i < 7) (hq : q < 8) where
  names-above : (b : Bool) → above (names i q b) ≡ true
  names-above b = rw (lt-ltb 10 (97 + i) (omega arith), lt-ltb 10 (49 + q) (omega arith), lt-ltb 10 (value_digit b) (value-past b)) refl

  look_taken : (v : ℕ) → v ≤ 1 → Taken (words_of (Some (Look i q)) v) (byte_of (Look i q)) v
  unfolding is_look has_form stands_for
  look_taken v h =
      let l = words_of (Some (Look i q)) v in
      let e : is_look l ≡ true = rw (sign_of 97 7 i hi, sign_of 49 8 q hq, value-fits (eqb v 1)) refl in
      taken_by l (gives_by l true _ e refl)
      (act_by l true e ∙ ap plan_byte (ap₂ Look (index_of 97 i) (index_of 49 q)) ∙ plan-byte (Look i q) hi hq)
      (seen_by l true e ∙ seen_digit v h)
      (above-clear l (names-above (eqb v 1)))

  set-taken : (b : Bool) → Taken (words_of (Some (Set i q b)) 0) (byte_of (Set i q b)) 0
  unfolding is_look is_set has_form stands_for
  set-taken b =
      let l = words_of (Some (Set i q b)) 0 in
      taken_by l (gives_by l false true refl (rw (sign_of 97 7 i hi, sign_of 49 8 q hq, value-fits b) refl))
      (act_by l false refl
      ∙ ap plan_byte (ap₂ (λ (j k : ℕ). Set j k (eqb (value_digit b) 49)) (index_of 97 i) (index_of 49 q) ∙ ap (Set i q) (value_read b))
      ∙ plan-byte (Set i q b) hi hq)
      (seen_by l false refl)
      (above-clear l (names-above b))

pub record_taken : (c v : ℕ) → T (is_record c v) → Taken (record_text c v) c v
unfolding is_record record_text
record_taken c v h = by_act (act_of c) refl h
  where
    by_act : (n : Option Act) → act_of c ≡ n → T (seen_in n v) → Taken (words_of n v) c v
    by_act None e h = absurd h
    by_act (Some (Set i q b)) e h =
        let x = byte_of_act c (Set i q b) e in
        subst (λ (k : ℕ). Taken (words_of (Some (Set i q b)) v) k v) x.0
        (subst (λ (w : ℕ). Taken (words_of (Some (Set i q b)) w) (byte_of (Set i q b)) w) (sym (eqb→eq v 0 h)) (set-taken i q x.1 x.2 b))
    by_act (Some (Look i q)) e h =
        let x = byte_of_act c (Look i q) e in
        subst (λ (k : ℕ). Taken (words_of (Some (Look i q)) v) k v) x.0 (look_taken i q x.1 x.2 v (leb→le v 1 h))

-- ---- a line that gives a record is its words

pub record Said (l : List ℕ) : Type 0 where
  pub act_byte : ℕ
  pub seen : ℕ
  pub is_record_case : T (is_record act_byte seen)
  pub text : l ≡ record_text act_byte seen

-- a word and `P G V`
spelled : (word l : List ℕ) → plain word ≡ true → has_form (word ++ bytes "P G V") l ≡ true → (i : ℕ) × (q : ℕ) × (b : Bool) × (i < 7) × (q < 8) × (l ≡ word ++ names i q b)
unfolding stands_for
spelled word l h e =
    let x = form_plain word (bytes "P G V") l h e in
    let n = names_are (bytes " V") x.0 x.2 in
    let s = form_plain (bytes " ") (bytes "V") n.2 refl n.6 in
    let v = form_head 86 [] s.0 s.2 in
    let b = value-is v.0 v.3 in (
      n.0,
      n.1,
      b.0,
      n.3,
      n.4,
      x.1 ∙ ap (λ (t : List ℕ). word ++ t)
          (n.5 ∙ ap (λ (t : List ℕ). (97 + n.0) ∷ 32 ∷ (49 + n.1) ∷ t) (s.1 ∙ ap (◌∷◌ 32) (v.2 ∙ ap₂ ◌∷◌ b.1 (form_end v.1 v.4)))),
    )

-- a value as what was seen
seen_as : Bool → ℕ
seen_as false = 0
seen_as true = 1

seen_as_lem : (b : Bool) → (T (leb (seen_as b) 1)) × (eqb (seen_as b) 1 ≡ b)
unfolding seen_as
seen_as_lem false = (tt, refl)
seen_as_lem true = (tt, refl)

look_said : (l : List ℕ) → is_look l ≡ true → Said l
unfolding is_look is_record record_text
look_said l e =
    let x = spelled (bytes "look ") l refl e in
    let a = act_of_byte (Look x.0 x.1) x.3 x.4 in
    let v = seen_as x.2 in
    let y = seen_as_lem x.2 in
    record {
      act_byte = byte_of (Look x.0 x.1);
      seen = v;
      is_record_case = subst (λ (n : Option Act). T (seen_in n v)) (sym a) y.0;
      text = x.5 ∙ ap (λ (b : Bool). bytes "look " ++ names x.0 x.1 b) (sym y.1) ∙ ap (λ (n : Option Act). words_of n v) (sym a);
    }

set_said : (l : List ℕ) → is_set l ≡ true → Said l
unfolding is_set is_record record_text
set_said l e =
    let x = spelled (bytes "set ") l refl e in
    let a = act_of_byte (Set x.0 x.1 x.2) x.3 x.4 in
    record {
      act_byte = byte_of (Set x.0 x.1 x.2);
      seen = 0;
      is_record_case = subst (λ (n : Option Act). T (seen_in n 0)) (sym a) tt;
      text = x.5 ∙ ap (λ (n : Option Act). words_of n 0) (sym a);
    }

pub given_said : (l : List ℕ) → gives_record l ≡ true → Said l
unfolding gives_record
given_said l e =
    ⊎_elim (λ (h : T (is_look l)). look_said l (T→true (is_look l) h)) (λ (h : T (is_set l)). set_said l (T→true (is_set l) h))
    (or_out (is_look l) (is_set l) (true→T e))
