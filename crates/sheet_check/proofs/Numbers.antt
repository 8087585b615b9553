-- Which numbers `check` gives, and of whom: the book's 6 to 9, a question line's or a formula's, the plan text's 22 and 24, and of a plan's bytes 16 to 21 and 32. So
-- never 10 to 15: the question that a text asks is valid, and no room is lent. By what the three texts mean, a question line by line.
use mathlib.Core.Path.{◌≡◌, refl, sym, ap, subst}
use mathlib.Core.Logic.{◌⊎◌, inl, inr}
use mathlib.Core.Bool.{Bool, true, false, not, ◌&&◌}
use mathlib.Core.List.{List, [], ◌∷◌}
use Prim.Native.Nat.{ℕ, suc, ◌≤◌}
use native.Mathlib.Omega.{arith}
use lib.Dec.{ltb}
use lib.ListN.{length, drop}
use Rattle.std.proofs.Common.{Result, Ok, Err}
use Rattle.sheet_check.specs.declared.CheckFault.{CheckFault}
use Rattle.sheet_check.specs.declared.CheckFault.TheVariants.{Book as BookRefused, Question as QuestionRefused, Text as TextRefused, Plan as PlanRefused}
use Rattle.ground.specs.Text.{bytes}
use Rattle.ground.proofs.Bools.{lt_or_ge}
use Rattle.refusal.specs.declared.Refusal.{Refusal}
use Rattle.refusal.specs.declared.Refusal.TheVariants.{Malformed, Twice}
use Rattle.refusal.specs.Refusals.{number}
use Rattle.refusal.specs.Order.{First}
use Rattle.refusal.proofs.OrderLaws.{first-clear}
use Rattle.formula.specs.Computed.{formula_answer}
use Rattle.book_sound.specs.Rows.{book_rows}
use Rattle.knowledge.specs.Goal.{Goal}
use Rattle.plan.specs.Check.{Fault, no_act, not_permitted, changes_nothing_case, not_settled, too_soon, left_over}
use Rattle.question.specs.Asks.{ValidQuestion}
use Rattle.question.specs.declared.Question.{Question}
use Rattle.question.proofs.RowLaws.{question_clear}
use Rattle.plancheck.specs.Checks.{Checks}
use Rattle.plancheck.specs.Refusals.{refusal_of}
use Rattle.plancheck.proofs.OneAnswer.{refused_by}
use Rattle.plancheck_text.specs.Meaning as Text
use Rattle.plancheck_text.specs.Meaning.{plan_text_meaning}
use Rattle.plancheck_text.proofs.Theorems.{stray_first}
use Rattle.sheet_words.specs.Words.{split, newline, begins, twice, passed_over}
use Rattle.sheet_words.specs.Steps.{fault, next, unless, unless_answered, unless_refused, names_step}
use Rattle.sheet_rules.proofs.FormulaLaws.{formula_number}
use Rattle.sheet_question.specs.Asked.{Asked, nothing_asked, known_settings}
use Rattle.sheet_question.specs.Forms.{is_team, team_of, is_known, known_of, is_held, held_of}
use Rattle.sheet_question.specs.LineSteps.{AskedStep, with_team, with_known, with_held, with_make, with_ask, team_step, known_step, held_step, make_step, ask_step}
use Rattle.sheet_question.specs.LineSteps.{held_or, held_or_make, due_step, unless_passed, line_step}
use Rattle.sheet_question.specs.Question.{QuestionMeaning, refused, asked, ending, asked_from, question_meaning}
use Rattle.sheet_question.specs.declared.desk.Due.{Due}
use Rattle.sheet_question.specs.declared.desk.Due.TheVariants.{Team, Known, Held, Make, Asks}
use Rattle.sheet_question.proofs.Fits.{asked-fits}
use Rattle.sheet_question.proofs.ReadLaws.{after, asked-after, too_long, not-long}
use Rattle.sheet_ask.proofs.AskedQuestion.{asked-valid}
use Rattle.sheet_check.specs.Checks.{ChecksText, ChecksQuestion, ChecksTexts}

-- ---- the book's

book_numbers : (book : List ℕ) (why : Refusal) → First (book_rows book) why → (6 ≤ number why) × (number why ≤ 9)
unfolding book_rows
book_numbers book why f = elim f.first [
  | inl g ↦ (let e : number why ≡ 6 = ap number g.named in (omega (arith, e), omega (arith, e)))
  | inr (a, inl g) ↦ (let e : number why ≡ 7 = ap number g.named in (omega (arith, e), omega (arith, e)))
  | inr (a, inr (b, inl g)) ↦ (let e : number why ≡ 8 = ap number g.named in (omega (arith, e), omega (arith, e)))
  | inr (a, inr (b, inr (c, inl g))) ↦ (let e : number why ≡ 9 = ap number g.named in (omega (arith, e), omega (arith, e)))
  | inr (a, inr (b, inr (c, inr (d, none)))) ↦ absurd none
]

-- ---- the question text's: a formula's, or 22 to 24

abbrev pub OfQuestion : Refusal → Type 0
OfQuestion why = (number why ≤ 5) ⊎ ((22 ≤ number why) × (number why ≤ 24))

abbrev OfStep : AskedStep → Type 0
OfStep (fault r) = OfQuestion r
OfStep (next x) = Unit

own-unless : (b : Bool) (r : Refusal) (later : AskedStep) → OfQuestion r → OfStep later → OfStep (unless b r later)
own-unless true r later own h = h
own-unless false r later own h = own

own-refused : (n : ℕ) (F : List ℕ) (later : AskedStep) → OfStep later → OfStep (unless_refused n F later)
unfolding unless_refused
own-refused n F later h = by_answer (formula_answer n F) refl
  where
    by_answer : (a : Result (Unit {0}) Refusal) → formula_answer n F ≡ a → OfStep (unless_answered a later)
    by_answer (Ok x) e = h
    by_answer (Err r) e = inl (formula_number n F r e)

own-names : (L : ℕ) (form : Bool) (names : List ℕ) (later : AskedStep) → OfStep later → OfStep (names_step L form names later)
own-names L form names later h =
    own-unless form (Malformed L) _ (inr (omega arith, omega arith)) (own-unless (not (twice (λ i. false) names)) (Twice L) later (inr (omega arith, omega arith)) h)

module _ (passes : Bool) (n m : ℕ) where
  own_held : (b : Bool) (x y : AskedStep) → OfStep x → OfStep y → OfStep (held_or b x y)
  own_held true x y h k = h
  own_held false x y h k = k

  own-make : (L : ℕ) (a : Asked) (line : List ℕ) → OfStep (make_step n L a line)
  unfolding make_step
  own-make L a line =
      own-unless (begins (bytes "make ") line) (Malformed L) _ (inr (omega arith, omega arith)) (own-refused n (drop 5 line) (next (Asks, with_make a (drop 5 line))) tt)

  own_due : (L : ℕ) (due : Due) (a : Asked) (line : List ℕ) → OfStep (due_step n m L due a line)
  unfolding team_step known_step held_step held_or_make ask_step
  own_due L Team a line = own-names L (is_team m line) (team_of line) (next (Known, with_team a line)) tt
  own_due L Known a line = own-names L (is_known n line) (known_settings (known_of line)) (next (Held, with_known a line)) tt
  own_due L Held a line =
      own_held (begins (bytes "held") line) _ (make_step n L a line)
      (own-names L (is_held n line) (held_of line) (next (Make, with_held a line)) tt) (own-make L a line)
  own_due L Make a line = own-make L a line
  own_due L Asks a line =
      own-unless (begins (bytes "ask ") line && ltb (length a.asks) 4) (Malformed L) _ (inr (omega arith, omega arith))
      (own-refused n (drop 4 line) (next (Asks, with_ask a (drop 4 line))) tt)

  own_line : (L : ℕ) (due : Due) (a : Asked) (line : List ℕ) → OfStep (line_step passes n m L due a line)
  unfolding line_step
  own_line L due a line = by_passed (passes && passed_over line)
    where
      by_passed : (b : Bool) → OfStep (unless_passed b due a (due_step n m L due a line))
      by_passed true = tt
      by_passed false = own_due L due a line

  abbrev OfMeaning : QuestionMeaning → Type 0
  OfMeaning (refused r line) = OfQuestion r
  OfMeaning (asked a) = Unit

  own_end : (L : ℕ) (due : Due) (a : Asked) (rest : List ℕ) → OfMeaning (ending due a rest L)
  own_end L Team a rest = inr (omega arith, omega arith)
  own_end L Known a rest = inr (omega arith, omega arith)
  own_end L Held a rest = inr (omega arith, omega arith)
  own_end L Make a rest = inr (omega arith, omega arith)
  own_end L Asks a [] = tt
  own_end L Asks a (c ∷ rest) = inr (omega arith, omega arith)

  own-after : (L : ℕ) (pieces : List (List ℕ)) (x : AskedStep) → ((d : Due) (b : Asked) → OfMeaning (asked_from passes n m (suc L) d b pieces)) → OfStep x
      → OfMeaning (after passes n m L pieces x)
  own-after L pieces (fault r) more h = h
  own-after L pieces (next (d, b)) more h = more d b

  own_from : (L : ℕ) (due : Due) (a : Asked) (pieces : List (List ℕ)) → OfMeaning (asked_from passes n m L due a pieces)
  unfolding asked_from
  own_from L due a [] = inr (omega arith, omega arith)
  own_from L due a (rest ∷ []) = own_end L due a rest
  own_from L due a (line ∷ another ∷ more) =
      subst OfMeaning (sym (asked-after passes n m L due a line another more))
      (own-after L (another ∷ more) (line_step passes n m L due a line) (λ d b. own_from (suc L) d b (another ∷ more)) (own_line L due a line))

  own_question : (before : ℕ) (s : List ℕ) → OfMeaning (question_meaning before passes n m s)
  own_question before s = elim (lt_or_ge 65536 (length s)) [
    | inl h ↦ subst OfMeaning (sym (too_long before passes n m s h)) (inr (omega arith, omega arith))
    | inr h ↦ subst OfMeaning (sym (not-long before passes n m s h)) (own_from (suc before) Team nothing_asked (split newline s))
  ]

-- ---- the plan text's

text-numbers : (s : List ℕ) (why : Refusal) → plan_text_meaning s ≡ Text.refused why → (number why ≡ 22) ⊎ (number why ≡ 24)
text-numbers s why e = elim (stray_first s why e) [ inl (f, h) ↦ inr (ap number f) | inr (h, (i, f, stray)) ↦ inl (ap number f) ]

-- ---- the plan check's, of a valid question

abbrev pub OfPlan : Refusal → Type 0
OfPlan why = ((16 ≤ number why) × (number why ≤ 21)) ⊎ (number why ≡ 32)

fault-number : (f : Fault) (i : ℕ) → OfPlan (refusal_of f i)
fault-number no_act i = inl (omega arith, omega arith)
fault-number (not_permitted why) i = inl (omega arith, omega arith)
fault-number changes_nothing_case i = inr refl
fault-number not_settled i = inl (omega arith, omega arith)
fault-number too_soon i = inl (omega arith, omega arith)
fault-number left_over i = inl (omega arith, omega arith)

plan-numbers : {book : List ℕ} {q : Question} {goal : Goal} {n m : ℕ} → ValidQuestion book q goal n m → (plan : List ℕ) (why : Refusal) → Checks book q goal plan (Err why) → OfPlan why
plan-numbers {book} {q} {goal} valid plan why c = elim (refused_by book q goal plan why c) [
  | inl f ↦ first-clear f (question_clear valid)
  | inr (inl (l, long)) ↦ (let e : number why ≡ 16 = ap number l in inl (omega (arith, e), omega (arith, e)))
  | inr (inr (f, i, s, j)) ↦ subst OfPlan (sym s) (fault-number f i)
]

-- ---- all of them

abbrev pub NumbersOf : Result (Unit {0}) CheckFault → Type 0
NumbersOf (Ok done) = Unit
NumbersOf (Err (BookRefused why)) = (6 ≤ number why) × (number why ≤ 9)
NumbersOf (Err (QuestionRefused f)) = OfQuestion f.why
NumbersOf (Err (TextRefused why)) = (number why ≡ 22) ⊎ (number why ≡ 24)
NumbersOf (Err (PlanRefused why)) = OfPlan why

pub told-numbers : (book question plan : List ℕ) (r : Result (Unit {0}) CheckFault) → ChecksTexts book question plan r → NumbersOf r
told-numbers book question plan r (inl (why, f, e)) = subst NumbersOf (sym e) (book_numbers book why f)
told-numbers book question plan r (inr (n, m, sound, c)) = by_question (question_meaning 0 true n m question) refl c
  where
    by_text : (q : Question) (goal : Goal) → ValidQuestion book q goal n m → (o : Text.Meaning) → plan_text_meaning plan ≡ o → ChecksText book q goal o r → NumbersOf r
    by_text q goal valid (Text.refused why) s e = subst NumbersOf (sym e) (text-numbers plan why s)
    by_text q goal valid (Text.plan b) s (Ok x, d, e) = subst NumbersOf (sym e) tt
    by_text q goal valid (Text.plan b) s (Err why, d, e) = subst NumbersOf (sym e) (plan-numbers valid b why d)

    by_question : (o : QuestionMeaning) → question_meaning 0 true n m question ≡ o → ChecksQuestion n book o plan r → NumbersOf r
    by_question (refused why line) s e = subst NumbersOf (sym e) (subst (OfMeaning true n m) s (own_question true n m 0 question))
    by_question (asked a) s (q, goal, k, t) = by_text q goal (asked-valid (asked-fits n m 0 true question a s) k sound) (plan_text_meaning plan) refl t
