-- What is promised of what `check` says, about its contract: it is one thing alone; yes is said exactly of the text of a plan that works; and what `ask`
-- prints for "reach" gets a yes. By what the three texts mean.
use mathlib.Core.Path.{◌≡◌, refl, sym, ap, ◌∙◌, subst, subst₂}
use mathlib.Core.Logic.{inl, inr, ◌↔◌}
use mathlib.Core.Bool.{true}
use mathlib.Core.List.{List}
use Prim.Native.Nat.{ℕ, ◌≤◌}
use native.Mathlib.Omega.{arith}
use lib.Dec.{T}
use lib.ListN.{length, take}
use Rattle.refusal.specs.declared.Refusal.{Refusal}
use Rattle.std.proofs.Common.{Result, Ok, Err}
use Rattle.sheet_check.specs.declared.CheckFault.{CheckFault}
use Rattle.sheet_check.specs.declared.CheckFault.TheVariants.{Book as BookRefused}
use Rattle.ground.specs.Text.{bytes}
use Rattle.ground.specs.Search.{Least}
use Rattle.refusal.proofs.OrderLaws.{first_unique, first-clear}
use Rattle.book_sound.specs.Sound.{Sound}
use Rattle.book_sound.proofs.SoundLaws.{sound-clear}
use Rattle.book_sound.proofs.Theorems.{sound-one}
use Rattle.knowledge.specs.Goal.{Goal}
use Rattle.plan.specs.Plans.{Plan, Works, height}
use Rattle.plan.specs.Ranks.{Reach, Written}
use Rattle.plan.specs.Bytes.{encode}
use Rattle.plan.proofs.Check.{check_exact}
use Rattle.plan.proofs.Size.{works_permitted}
use Rattle.plan.proofs.Written.{written_works, written-height}
use Rattle.print_answer.specs.Printed.{reach_text, refused_text, cannot_text, Prints}
use Rattle.print_answer.proofs.Theorems.{permitted-lettered, prints-whole}
use Rattle.print_answer.proofs.Lengths.{height-length}
use Rattle.question.specs.Question.{system_of, start_of}
use Rattle.question.specs.Asks.{ValidQuestion}
use Rattle.question.specs.declared.Question.{Question}
use Rattle.question.proofs.SystemLaws.{lawful, few}
use Rattle.plancheck.specs.Checks.{Checks}
use Rattle.plancheck.proofs.OneAnswer.{checks-one}
use Rattle.plancheck.proofs.Theorems as Plans
use Rattle.plancheck_text.specs.Meaning as Text
use Rattle.plancheck_text.specs.Meaning.{plan_text_meaning}
use Rattle.plancheck_text.proofs.Theorems.{reads_back, printed-fits}
use Rattle.sheet_words.specs.Words.{begins, split, newline}
use Rattle.sheet_question.specs.Asked.{Asked}
use Rattle.sheet_question.specs.Question.{QuestionMeaning, refused, asked, question_meaning}
use Rattle.sheet_question.proofs.Fits.{asked-fits}
use Rattle.sheet_ask.specs.Asks.{QuestionAsks, PrintsQuestion, AsksBook}
use Rattle.sheet_ask.proofs.AskedQuestion.{asked-valid, same-goal, same_question}
use Rattle.sheet_ask.proofs.Theorems.{ask_told}
use Rattle.sheet_legs.specs.Legs.{whole, cut_lines}
use Rattle.sheet_check.specs.Checks.{told_of, ChecksText, ChecksQuestion, ChecksTexts}

-- ---- one result alone

text-one : (book : List ℕ) (q : Question) (goal : Goal) (o : Text.Meaning) (x y : Result (Unit {0}) CheckFault) → ChecksText book q goal o x → ChecksText book q goal o y → x ≡ y
text-one book q goal (Text.refused why) x y a b = a ∙ sym b
text-one book q goal (Text.plan s) x y (u, a, e) (v, b, f) = e ∙ ap told_of (checks-one book q goal s u v a b) ∙ sym f

question_one : (n : ℕ) (book : List ℕ) (o : QuestionMeaning) (plan : List ℕ) (x y : Result (Unit {0}) CheckFault) → ChecksQuestion n book o plan x → ChecksQuestion n book o plan y → x ≡ y
question_one n book (refused why line) plan x y a b = a ∙ sym b
question_one n book (asked v) plan x y (q, goal, k, a) (q', goal', l, b) =
    text-one book q goal (plan_text_meaning plan) x y a
    (subst₂ (λ (c : Question) (g : Goal). ChecksText book c g (plan_text_meaning plan) y) (same_question l k) (same-goal l k) b)

pub check_unique : (book question plan : List ℕ) (x y : Result (Unit {0}) CheckFault) → ChecksTexts book question plan x → ChecksTexts book question plan y → x ≡ y
check_unique book question plan x y (inl (w, f, e)) (inl (v, g, d)) = e ∙ ap (λ (w : Refusal). Err (BookRefused w)) (first_unique f g) ∙ sym d
check_unique book question plan x y (inl (w, f, e)) (inr (n, m, sound, c)) = first-clear f (sound-clear sound)
check_unique book question plan x y (inr (n, m, sound, c)) (inl (w, f, e)) = first-clear f (sound-clear sound)
check_unique book question plan x y (inr (n, m, sound, a)) (inr (k, l, other, b)) =
    let e = sound-one other sound in
    question_one n book (question_meaning 0 true n m question) plan x y a
    (subst₂ (λ (i j : ℕ). ChecksQuestion i book (question_meaning 0 true i j question) plan y) e.0 e.1 b)

-- ---- a sound book, and a text that asks

module _ {book : List ℕ} (question : List ℕ) {n m : ℕ} {a : Asked} {q : Question} {goal : Goal}
    (sound : Sound book n m) (means : question_meaning 0 true n m question ≡ asked a) (asks : QuestionAsks n a q goal) where
  valid : ValidQuestion book q goal n m
  valid = asked-valid (asked-fits n m 0 true question a means) asks sound

  -- what is said of a plan's text is what its meaning gets
  pub text-told : (plan : List ℕ) (r : Result (Unit {0}) CheckFault) → ChecksText book q goal (plan_text_meaning plan) r → ChecksTexts book question plan r
  text-told plan r c = inr (n, m, sound, subst (λ (o : QuestionMeaning). ChecksQuestion n book o plan r) (sym means) (q, goal, asks, c))

  -- of a text of these bytes, it is what the plan check answers to them
  pub read_told : (plan b : List ℕ) → plan_text_meaning plan ≡ Text.plan b → (answer : Result (Unit {0}) Refusal) → Checks book q goal b answer → ChecksTexts book question plan (told_of answer)
  read_told plan b e answer c =
      text-told plan (told_of answer) (subst (λ (o : Text.Meaning). ChecksText book q goal o (told_of answer)) (sym e) (answer, c, refl))

  -- the text of the plan that is written, with the least height, gets a yes
  pub printed_yes : (h : ℕ) (p : Plan) → Least (Reach (system_of n book q goal) (start_of q)) h → Written (system_of n book q goal) (start_of q) p
      → ChecksTexts book question (reach_text h p) (Ok tt)
  printed_yes h p least w =
      let S = system_of n book q goal in
      let k = start_of q in
      let yes = Plans.written-accepted valid p w in
      let same : height p ≡ h = written-height S p k h w (inl least) in
      let lettered = permitted-lettered (lawful valid) (few valid) p k (works_permitted S p k (written_works S p k w)) in
      read_told (reach_text h p) (encode p)
      (reads_back h p lettered (printed-fits h p (omega (arith, same, height-length p, yes.short)) yes.short)) (Ok tt) yes

  -- the text is that of at most 32,640 bytes, those of a plan that works
  abbrev pub TextOfWorking : List ℕ → Type 0
  TextOfWorking plan =
      (p : Plan) × Works (system_of n book q goal) (start_of q) p × (length (encode p) ≤ 32640) × (plan_text_meaning plan ≡ Text.plan (encode p))

  yes_text : (plan : List ℕ) (o : Text.Meaning) → plan_text_meaning plan ≡ o → ChecksText book q goal o (Ok tt) → TextOfWorking plan
  yes_text plan (Text.refused why) e c = absurd (let z : ◌≡◌ {A = ℕ} 0 1 = cc in omega arith)
  yes_text plan (Text.plan b) e (Err why, j, f) = absurd (let z : ◌≡◌ {A = ℕ} 0 1 = cc in omega arith)
  yes_text plan (Text.plan b) e (Ok done, j, f) =
      let (short, (p, w, same)) = (Plans.yes_exact valid b (Ok done) j).0 refl in
      (p, w, omega (arith, short, ap length same), e ∙ ap Text.plan same)

  yes_question : (plan : List ℕ) → ChecksQuestion n book (asked a) plan (Ok tt) → TextOfWorking plan
  yes_question plan (q', goal', k, c) =
      yes_text plan (plan_text_meaning plan) refl
      (subst₂ (λ (c : Question) (g : Goal). ChecksText book c g (plan_text_meaning plan) (Ok tt)) (same_question k asks) (same-goal k asks) c)

  yes_book : (plan : List ℕ) → ChecksTexts book question plan (Ok tt) → TextOfWorking plan
  yes_book plan (inl (why, f, e)) = absurd (let z : ◌≡◌ {A = ℕ} 0 1 = cc in omega arith)
  yes_book plan (inr (i, j, other, c)) =
      let e = sound-one other sound in
      yes_question plan (subst (λ (o : QuestionMeaning). ChecksQuestion n book o plan (Ok tt)) means
      (subst₂ (λ (i j : ℕ). ChecksQuestion i book (question_meaning 0 true i j question) plan (Ok tt)) e.0 e.1 c))

  -- yes is said exactly of such a text
  pub yes_exact : (plan : List ℕ) (r : Result (Unit {0}) CheckFault) → ChecksTexts book question plan r → (r ≡ Ok tt) ↔ TextOfWorking plan
  yes_exact plan r c = (
    λ e. yes_book plan (subst (ChecksTexts book question plan) e c),
    λ (p, w, l, e). check_unique book question plan r (Ok tt) c (read_told plan (encode p) e (Ok tt) (record {
      n = n;
      m = m;
      valid = valid;
      short = l;
      judged = (check_exact (lawful valid) (few valid) (start_of q) (encode p)).1 (p, w, refl);
    })),
  )

-- ---- what `ask` prints for "reach" and a question of one leg, all of it in its room, gets a yes

module _ (out new : List ℕ) (r : ℕ) (fits : r ≤ length out) (reach : T (begins (bytes "reach ") (take r new))) where
  -- it is neither a refusal nor `cannot`
  not-refused : (code at : ℕ) → Prints out (refused_text code at) r new → ⊥
  unfolding begins
  not-refused code at p = subst (λ (s : List ℕ). T (begins (bytes "reach ") s)) (prints-whole p fits) reach

  not_cannot : Prints out cannot_text r new → ⊥
  unfolding begins
  not_cannot p = subst (λ (s : List ℕ). T (begins (bytes "reach ") s)) (prints-whole p fits) reach

  module _ (book question ranks left : List ℕ) (told : Result (Unit {0}) CheckFault) (said : ChecksTexts book question (take r new) told) where
    reach_yes : {n m : ℕ} → Sound book n m → (o : QuestionMeaning) → question_meaning 0 true n m question ≡ o → PrintsQuestion n book o ranks out r left new
        → told ≡ Ok tt
    reach_yes sound (refused why line) e p = absurd (not-refused _ _ p.printed)
    reach_yes sound (asked a) e (q, goal, k, inl (l, p)) = absurd (not-refused _ _ p.printed)
    reach_yes sound (asked a) e (q, goal, k, inr (l, filled, inr (none, p))) = absurd (not_cannot p)
    reach_yes sound (asked a) e (q, goal, k, inr (l, filled, inl (h, plan, least, w, p))) =
        check_unique book question (take r new) told (Ok tt) said
        (subst (λ (s : List ℕ). ChecksTexts book question s (Ok tt)) (sym (prints-whole p fits)) (printed_yes question sound e k h plan least w))

    -- of a text of one leg: one without a line `then`
    pub asked_yes : cut_lines (split newline question) ≡ whole → AsksBook book question ranks out r left new → told ≡ Ok tt
    asked_yes alone (inl (why, f, p)) = absurd (not-refused _ _ p.printed)
    asked_yes alone (inr (n, m, sound, printed)) =
        reach_yes sound (question_meaning 0 true n m question) refl (ask_told sound question ranks out r left new (inr (n, m, sound, printed)) alone)
