-- A line that is taken is written as the grammar says, for the byte that is read: its digits are a number, and each form spells the words of one act.
use mathlib.Core.Path.{◌≡◌, refl, sym, ap, ap₂, ◌∙◌, subst}
use mathlib.Core.Logic.{⊎_elim}
use mathlib.Core.Bool.{Bool, true, false, not, ◌&&◌, ◌||◌, cond}
use mathlib.Core.List.{List, [], ◌∷◌, ◌++◌, append_assoc}
use Prim.Native.Nat.{ℕ, zero, suc, ◌+◌, ◌-◌, ◌<◌}
use native.Mathlib.Omega.{arith}
use lib.Dec.{T, ltb, eqb, ltb→lt, eqb→eq}
use lib.ListN.{length, take, drop, take-append-drop}
use lib.Seq.{length-take-le, take_all}
use Rattle.ground.specs.Text.{bytes}
use Rattle.ground.proofs.Bools.{true→T, T→true, T→false, and_left, and_right, or_out}
use Rattle.knowledge_acts.specs.Acts.{setting_of, post_of, byte_of}
use Rattle.knowledge_acts.specs.declared.act.Act.{Act}
use Rattle.knowledge_acts.specs.declared.act.Act.TheVariants.{Set, Look}
use Rattle.print_room.specs.Decimal.{AllDigits}
use Rattle.print_answer.specs.Listed.{value_digit, act_text}
use Rattle.sheet_words.specs.Words.{among, begins}
use Rattle.sheet_words.proofs.NameForms.{between}
use Rattle.plancheck_text.specs.Lines.{digit_count, is_number, is_reach_line, stands_for, has_form, is_stop, is_look, is_set, after_depth, is_plan_line, line_byte}
use Rattle.plancheck_text.specs.Grammar.{Number, LineOf, stops, acts}
use Rattle.plancheck_text.proofs.LineLaws.{digits_most, stands_by}
use Rattle.plancheck_text.proofs.WrittenLines.{line_taken}

-- ---- digits

pub digits-taken : (s : List ℕ) → AllDigits (take (digit_count s) s)
unfolding digit_count
digits-taken [] = tt
digits-taken (c ∷ s) = by_test (among 48 10 c) refl (digits-taken s)
  where
    by_test : (b : Bool) → among 48 10 c ≡ b → AllDigits (take (digit_count s) s) → AllDigits (take (cond b (suc (digit_count s)) 0) (c ∷ s))
    by_test true e h = let x = between 48 10 c (true→T e) in (x.0, omega (arith, x.1), h)
    by_test false e h = tt

-- ---- forms

no_form : {A : Type 0} → false ≡ true → A
no_form e = absurd (let y : ◌≡◌ {A = ℕ} 0 1 = cc in omega arith)

pub both_true : (a b : Bool) → (a && b) ≡ true → (a ≡ true) × (b ≡ true)
both_true a b e = let t = true→T {a = a && b} e in (T→true a (and_left a b t), T→true b (and_right a b t))

-- the first byte
pub form_head : (sign : ℕ) (form w : List ℕ) → has_form (sign ∷ form) w ≡ true → (c : ℕ) × (t : List ℕ) × (w ≡ c ∷ t) × (stands_for sign c ≡ true) × (has_form form t ≡ true)
unfolding has_form
form_head sign form [] e = no_form e
form_head sign form (c ∷ t) e = let x = both_true (stands_for sign c) (has_form form t) e in (c, t, refl, x.0, x.1)

pub form_end : (w : List ℕ) → has_form [] w ≡ true → w ≡ []
unfolding has_form
form_end [] e = refl
form_end (c ∷ t) e = no_form e

-- signs that stand for themselves
abbrev pub plain : List ℕ → Bool
plain [] = true
plain (sign ∷ form) = (not (eqb sign 80) && not (eqb sign 71) && not (eqb sign 86)) && plain form

plain_sign : (sign c : ℕ) → T (not (eqb sign 80) && not (eqb sign 71) && not (eqb sign 86)) → stands_for sign c ≡ true → c ≡ sign
plain_sign sign c h e =
    let p = not (eqb sign 80) in
    let g = not (eqb sign 71) in
    let v = not (eqb sign 86) in
    let x = and_left (p && g) v h in
    sym (eqb→eq sign c (true→T (sym
    (stands_by sign c false false false (T→false (eqb sign 80) (and_left p g x)) (T→false (eqb sign 71) (and_right p g x)) (T→false (eqb sign 86) (and_right (p && g) v h)))
    ∙ e)))

pub form_plain : (form more w : List ℕ) → plain form ≡ true → has_form (form ++ more) w ≡ true → (t : List ℕ) × (w ≡ form ++ t) × (has_form more t ≡ true)
form_plain [] more w h e = (w, refl, e)
form_plain (sign ∷ form) more w h e =
    let x = form_head sign (form ++ more) w e in
    let y = both_true (not (eqb sign 80) && not (eqb sign 71) && not (eqb sign 86)) (plain form) h in
    let z = form_plain form more x.1 y.1 x.4 in
    (z.0, x.2 ∙ ap₂ ◌∷◌ (plain_sign sign x.0 (true→T y.0) x.3) z.1, z.2)

-- P, G and V
sign_is : (first count c : ℕ) → among first count c ≡ true → (i : ℕ) × (i < count) × (c ≡ first + i)
sign_is first count c e = let x = between first count c (true→T e) in (c - first, omega (arith, x.0, x.1), omega (arith, x.0))

pub value-is : (c : ℕ) → among 48 2 c ≡ true → (b : Bool) × (c ≡ value_digit b)
value-is c e = let x = sign_is 48 2 c e in by_digit x.0 x.1 x.2
  where
    by_digit : (i : ℕ) → i < 2 → c ≡ 48 + i → (b : Bool) × (c ≡ value_digit b)
    by_digit zero h e = (false, e)
    by_digit (suc zero) h e = (true, e)
    by_digit (suc (suc i)) h e = absurd (omega arith)

-- `P G`, and what follows it
pub names_are : (more w : List ℕ) → has_form (bytes "P G" ++ more) w ≡ true
    → (i : ℕ) × (q : ℕ) × (t : List ℕ) × (i < 7) × (q < 8) × (w ≡ (97 + i) ∷ 32 ∷ (49 + q) ∷ t) × (has_form more t ≡ true)
unfolding stands_for
names_are more w e =
    let p = form_head 80 (bytes " G" ++ more) w e in
    let s = form_plain (bytes " ") (bytes "G" ++ more) p.1 refl p.4 in
    let g = form_head 71 more s.0 s.2 in
    let i = sign_is 97 7 p.0 p.3 in
    let q = sign_is 49 8 g.0 g.3 in
    (i.0, q.0, g.1, i.1, q.1, p.2 ∙ ap₂ ◌∷◌ i.2 (s.1 ∙ ap (◌∷◌ 32) (g.2 ∙ ap (λ (c : ℕ). c ∷ g.1) q.2)), g.4)

-- ---- a line

module _ (line : List ℕ) (h : 0 < digit_count line) where
  depth : List ℕ
  depth = take (digit_count line) line

  is_depth : Number depth
  unfolding depth
  is_depth = (digits-taken line, omega (arith, h, length-take-le (digit_count line) line (digits_most line)))

  spelled : (w : List ℕ) → after_depth line ≡ 32 ∷ w → line ≡ depth ++ bytes " " ++ w
  unfolding depth after_depth
  spelled w e = sym (take-append-drop (digit_count line) line) ∙ ap (λ (t : List ℕ). depth ++ t) e ∙ sym (append_assoc depth (bytes " ") w)

  stop-only : after_depth line ≡ 32 ∷ bytes "stop" → LineOf line (line_byte line)
  stop-only e =
      let s = spelled (bytes "stop") e in
      stops depth is_depth s (line_taken line 0 (stops depth is_depth s refl)).is_byte

  act_only : (a : Act) → setting_of a < 7 → post_of a < 8 → after_depth line ≡ 32 ∷ act_text a → LineOf line (line_byte line)
  act_only a hi hq e =
      let s = spelled (act_text a) e in
      acts depth a is_depth hi hq s (line_taken line (byte_of a) (acts depth a is_depth hi hq s refl)).is_byte

  by_stop : is_stop (after_depth line) ≡ true → LineOf line (line_byte line)
  unfolding is_stop
  by_stop e =
      let x = form_plain (bytes " stop") [] (after_depth line) refl e in
      stop-only (x.1 ∙ ap (λ (t : List ℕ). bytes " stop" ++ t) (form_end x.0 x.2))

  by_look : is_look (after_depth line) ≡ true → LineOf line (line_byte line)
  unfolding is_look
  by_look e =
      let x = form_plain (bytes " look ") (bytes "P G") (after_depth line) refl e in
      let n = names_are [] x.0 x.2 in
      act_only (Look n.0 n.1) n.3 n.4
      (x.1 ∙ ap (λ (t : List ℕ). bytes " look " ++ t) (n.5 ∙ ap (λ (t : List ℕ). (97 + n.0) ∷ 32 ∷ (49 + n.1) ∷ t) (form_end n.2 n.6)))

  by_set : is_set (after_depth line) ≡ true → LineOf line (line_byte line)
  unfolding is_set stands_for
  by_set e =
      let x = form_plain (bytes " set ") (bytes "P G V") (after_depth line) refl e in
      let n = names_are (bytes " V") x.0 x.2 in
      let s = form_plain (bytes " ") (bytes "V") n.2 refl n.6 in
      let v = form_head 86 [] s.0 s.2 in
      let b = value-is v.0 v.3 in
      act_only (Set n.0 n.1 b.0) n.3 n.4
      (x.1 ∙ ap (λ (t : List ℕ). bytes " set " ++ t)
      (n.5 ∙ ap (λ (t : List ℕ). (97 + n.0) ∷ 32 ∷ (49 + n.1) ∷ t)
      (s.1 ∙ ap (◌∷◌ 32) (v.2 ∙ ap₂ ◌∷◌ b.1 (form_end v.1 v.4)))))

pub line-only : (line : List ℕ) → is_plan_line line ≡ true → LineOf line (line_byte line)
unfolding is_plan_line
line-only line e =
    let s = is_stop (after_depth line) in
    let l = is_look (after_depth line) in
    let r = is_set (after_depth line) in
    let x = both_true (ltb 0 (digit_count line)) (s || l || r) e in
    let some = ltb→lt 0 (digit_count line) (true→T x.0) in
    ⊎_elim
    (λ (y : T (s || l)). ⊎_elim (λ (z : T s). by_stop line some (T→true s z)) (λ (z : T l). by_look line some (T→true l z)) (or_out s l y))
    (λ (y : T r). by_set line some (T→true r y))
    (or_out (s || l) r (true→T x.1))

-- ---- the first line

pub begins_then : (w s : List ℕ) → begins w s ≡ true → s ≡ w ++ drop (length w) s
unfolding begins
begins_then [] s e = refl
begins_then (c ∷ w) [] e = no_form e
begins_then (c ∷ w) (d ∷ s) e =
    let x = both_true (eqb c d) (begins w s) e in
    ap₂ ◌∷◌ (sym (eqb→eq c d (true→T x.0))) (begins_then w s x.1)

number-only : (s : List ℕ) → is_number s ≡ true → Number s
unfolding is_number
number-only s e =
    let x = both_true (ltb 0 (length s)) (eqb (digit_count s) (length s)) e in
    let all = eqb→eq (digit_count s) (length s) (true→T x.1) in
    (subst AllDigits (ap (λ (n : ℕ). take n s) all ∙ take_all (length s) s (omega arith)) (digits-taken s), ltb→lt 0 (length s) (true→T x.0))

pub reach_only : (line : List ℕ) → is_reach_line line ≡ true → Number (drop 6 line) × (line ≡ bytes "reach " ++ drop 6 line)
unfolding is_reach_line
reach_only line e =
    let x = both_true (begins (bytes "reach ") line) (is_number (drop 6 line)) e in
    (number-only (drop 6 line) x.1, begins_then (bytes "reach ") line x.0)
