-- Each refusal of `check` is given exactly where it is due, in the written order: the book's where it is not sound; of a sound book the question text's where
-- that is refused; of a question that is asked the plan text's where that is refused; and of a plan's bytes what the plan check refuses. What is given is one
-- thing alone, so it is enough that each is allowed, and that no other case allows it.
use mathlib.Core.Path.{◌≡◌, refl, sym, ap, ◌∙◌, subst, subst₂}
use mathlib.Core.Logic.{inl, inr, ◌↔◌}
use mathlib.Core.Bool.{true}
use mathlib.Core.List.{List}
use Prim.Native.Nat.{ℕ}
use native.Mathlib.Omega.{arith}
use Rattle.std.proofs.Common.{Result, Ok, Err}
use Rattle.sheet_words.specs.declared.Fault.{Fault}
use Rattle.sheet_check.specs.declared.CheckFault.{CheckFault}
use Rattle.sheet_check.specs.declared.CheckFault.TheVariants.{Book as BookRefused, Question as QuestionRefused, Text as TextRefused, Plan as PlanRefused}
use Rattle.refusal.specs.declared.Refusal.{Refusal}
use Rattle.refusal.specs.Order.{First}
use Rattle.refusal.proofs.OrderLaws.{first-clear}
use Rattle.book_sound.specs.Sound.{Sound}
use Rattle.book_sound.specs.Rows.{book_rows}
use Rattle.book_sound.proofs.SoundLaws.{sound-clear}
use Rattle.book_sound.proofs.Theorems.{sound-one}
use Rattle.knowledge.specs.Goal.{Goal}
use Rattle.question.specs.declared.Question.{Question}
use Rattle.plancheck.specs.Checks.{Checks}
use Rattle.plancheck_text.specs.Meaning as Text
use Rattle.plancheck_text.specs.Meaning.{plan_text_meaning}
use Rattle.sheet_question.specs.Asked.{Asked}
use Rattle.sheet_question.specs.Question.{QuestionMeaning, refused, asked, question_meaning}
use Rattle.sheet_ask.specs.Asks.{QuestionAsks}
use Rattle.sheet_ask.proofs.AskedQuestion.{same-goal, same_question}
use Rattle.sheet_check.specs.Checks.{ChecksText, ChecksQuestion, ChecksTexts}
use Rattle.sheet_check.proofs.Theorems.{check_unique, read_told, text-told}

-- whose it is: 0 for a yes, then in the written order
abbrev whose : Result (Unit {0}) CheckFault → ℕ
whose (Ok done) = 0
whose (Err (BookRefused why)) = 1
whose (Err (QuestionRefused f)) = 2
whose (Err (TextRefused why)) = 3
whose (Err (PlanRefused why)) = 4

-- another's is none
other : {A : Type 0} {r s t : Result (Unit {0}) CheckFault} → r ≡ s → r ≡ t → (whose s ≡ whose t → ⊥) → A
other d e differ = absurd (differ (ap whose (sym d ∙ e)))

-- ---- the book's

module _ (book question plan : List ℕ) (r : Result (Unit {0}) CheckFault) (told : ChecksTexts book question plan r) where
  no_text : (q : Question) (goal : Goal) (o : Text.Meaning) (why : Refusal) → ChecksText book q goal o r → r ≡ Err (BookRefused why) → ⊥
  no_text q goal (Text.refused w) why d e = other d e (λ z. omega arith)
  no_text q goal (Text.plan b) why (Ok x, c, d) e = other d e (λ z. omega arith)
  no_text q goal (Text.plan b) why (Err w, c, d) e = other d e (λ z. omega arith)

  no_question : (n : ℕ) (o : QuestionMeaning) (why : Refusal) → ChecksQuestion n book o plan r → r ≡ Err (BookRefused why) → ⊥
  no_question n (refused w line) why d e = other d e (λ z. omega arith)
  no_question n (asked a) why (q, goal, k, c) e = no_text q goal (plan_text_meaning plan) why c e

  book_only : (why : Refusal) → ChecksTexts book question plan r → r ≡ Err (BookRefused why) → First (book_rows book) why
  book_only why (inl (w, f, d)) e = let same : w ≡ why = let z : ◌≡◌ {A = Result (Unit {0}) CheckFault} (Err (BookRefused w)) (Err (BookRefused why)) = sym d ∙ e in cc in subst (First (book_rows book)) same f
  book_only why (inr (n, m, sound, c)) e = absurd (no_question n (question_meaning 0 true n m question) why c e)

  pub book_exact : (why : Refusal) → (r ≡ Err (BookRefused why)) ↔ First (book_rows book) why
  book_exact why = (book_only why told, λ f. check_unique book question plan r (Err (BookRefused why)) told (inl (why, f, refl)))

  -- ---- of a sound book, the question text's

  module _ {n m : ℕ} (sound : Sound book n m) where
    at_book : ChecksQuestion n book (question_meaning 0 true n m question) plan r
    at_book = elim told [
      | inl (why, f, e) ↦ first-clear f (sound-clear sound)
      | inr (k, l, same, c) ↦ (let e = sound-one same sound in
          subst₂ (λ (i j : ℕ). ChecksQuestion i book (question_meaning 0 true i j question) plan r) e.0 e.1 c)
    ]

    not-asked : (q : Question) (goal : Goal) (o : Text.Meaning) (f : Fault) → ChecksText book q goal o r → r ≡ Err (QuestionRefused f) → ⊥
    not-asked q goal (Text.refused w) f d e = other d e (λ z. omega arith)
    not-asked q goal (Text.plan b) f (Ok x, c, d) e = other d e (λ z. omega arith)
    not-asked q goal (Text.plan b) f (Err w, c, d) e = other d e (λ z. omega arith)

    question_only : (f : Fault) (o : QuestionMeaning) → ChecksQuestion n book o plan r → r ≡ Err (QuestionRefused f) → o ≡ refused f.why f.line
    question_only f (refused w at) d e =
        let z : ◌≡◌ {A = Result (Unit {0}) CheckFault} (Err (QuestionRefused (record { why = w; line = at }))) (Err (QuestionRefused f)) = sym d ∙ e in
        let y : ◌≡◌ {A = Fault} (record { why = w; line = at }) f = cc in
        ap (λ (x : Fault). refused x.why x.line) y
    question_only f (asked a) (q, goal, k, c) e = absurd (not-asked q goal (plan_text_meaning plan) f c e)

    pub question_exact : (f : Fault) → (r ≡ Err (QuestionRefused f)) ↔ (question_meaning 0 true n m question ≡ refused f.why f.line)
    question_exact f = (
      question_only f (question_meaning 0 true n m question) at_book,
      λ e. check_unique book question plan r (Err (QuestionRefused f)) told
          (inr (n, m, sound, subst (λ (o : QuestionMeaning). ChecksQuestion n book o plan (Err (QuestionRefused f))) (sym e) refl)),
    )

    -- ---- of a question that is asked, the plan text's, and then the plan check's

    module _ {a : Asked} {q : Question} {goal : Goal} (means : question_meaning 0 true n m question ≡ asked a) (asks : QuestionAsks n a q goal) where
      at_question : ChecksText book q goal (plan_text_meaning plan) r
      at_question =
          let (c, g, k, t) = subst (λ (o : QuestionMeaning). ChecksQuestion n book o plan r) means at_book in
          subst₂ (λ (c : Question) (g : Goal). ChecksText book c g (plan_text_meaning plan) r) (same_question k asks) (same-goal k asks) t

      text-only : (why : Refusal) (o : Text.Meaning) → ChecksText book q goal o r → r ≡ Err (TextRefused why) → o ≡ Text.refused why
      text-only why (Text.refused w) d e = let z : ◌≡◌ {A = Result (Unit {0}) CheckFault} (Err (TextRefused w)) (Err (TextRefused why)) = sym d ∙ e in cc
      text-only why (Text.plan b) (Ok x, c, d) e = other d e (λ z. omega arith)
      text-only why (Text.plan b) (Err w, c, d) e = other d e (λ z. omega arith)

      pub text_exact : (why : Refusal) → (r ≡ Err (TextRefused why)) ↔ (plan_text_meaning plan ≡ Text.refused why)
      text_exact why = (
        text-only why (plan_text_meaning plan) at_question,
        λ e. check_unique book question plan r (Err (TextRefused why)) told
            (text-told question sound means asks plan (Err (TextRefused why)) (subst (λ (o : Text.Meaning). ChecksText book q goal o (Err (TextRefused why))) (sym e) refl)),
      )

      plan-only : (why : Refusal) (b : List ℕ) → ChecksText book q goal (Text.plan b) r → r ≡ Err (PlanRefused why) → Checks book q goal b (Err why)
      plan-only why b (Ok x, c, d) e = other d e (λ z. omega arith)
      plan-only why b (Err w, c, d) e =
          let same : w ≡ why = let z : ◌≡◌ {A = Result (Unit {0}) CheckFault} (Err (PlanRefused w)) (Err (PlanRefused why)) = sym d ∙ e in cc in
          subst (λ (v : Refusal). Checks book q goal b (Err v)) same c

      pub plan_exact : (b : List ℕ) → plan_text_meaning plan ≡ Text.plan b → (why : Refusal) → (r ≡ Err (PlanRefused why)) ↔ Checks book q goal b (Err why)
      plan_exact b s why = (
        plan-only why b (subst (λ (o : Text.Meaning). ChecksText book q goal o r) s at_question),
        λ c. check_unique book question plan r (Err (PlanRefused why)) told (read_told question sound means asks plan b s (Err why) c),
      )
