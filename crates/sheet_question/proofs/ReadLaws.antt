-- A question line by line: what is left to be read from a place on is read from the next line on, in the state that the line leaves.
use mathlib.Core.Path.{◌≡◌, refl, sym, ap, ◌∙◌, subst, subst₂}
use mathlib.Core.Logic.{inl, inr}
use mathlib.Core.Bool.{Bool, true, false, cond}
use mathlib.Core.List.{List, [], ◌∷◌}
use Prim.Native.Nat.{ℕ, suc, ◌+◌, ◌≤◌, ◌<◌}
use native.Mathlib.Numerals.{add-one}
use native.Mathlib.Omega.{arith}
use lib.Dec.{ltb}
use Prim.Native.Nat.{min, max}
use Rattle.std.proofs.Common.{Result, Err}
use Rattle.sheet_words.specs.declared.Fault.{Fault}
use lib.ListN.{length}
use borrow.Author.Tests.{lt-ltb, le-ltb}
use Rattle.ground.proofs.Bools.{lt_or_ge}
use Rattle.refusal.specs.declared.Refusal.{Refusal}
use Rattle.refusal.specs.declared.Refusal.TheVariants.{Malformed, SheetLength}
use Rattle.sheet_words.specs.Words.{newline, split}
use Rattle.sheet_words.specs.Steps.{fault, next}
use Rattle.sheet_words.proofs.Split.{some_piece}
use Rattle.sheet_question.specs.Asked.{Asked, nothing_asked}
use Rattle.sheet_question.specs.LineSteps.{AskedStep, line_step}
use Rattle.sheet_question.specs.declared.desk.Due.{Due}
use Rattle.sheet_question.specs.declared.desk.Due.TheVariants.{Team, Known, Held, Make, Asks}
use Rattle.sheet_question.specs.declared.desk.AskedDesk.{AskedDesk}
use Rattle.sheet_question.specs.Question.{QuestionMeaning, refused, asked, ending, asked_from, question_meaning}
use Rattle.sheet_question.specs.Reads.{within, ReadsQuestion}

-- a text that is refused
pub refused-is : (n : ℕ) {o : QuestionMeaning} {why : Refusal} {line : ℕ} → o ≡ refused why line → ReadsQuestion n o (Err (record { why = why; line = line }))
refused-is n e = rw e (refl, refl)

-- ---- one line and then the others

module _ (passes : Bool) (n m : ℕ) where
  -- what comes of a text after line L, from what that line does
  abbrev pub after : ℕ → List (List ℕ) → AskedStep → QuestionMeaning
  after L pieces (fault r) = refused r L
  after L pieces (next (d, a)) = asked_from passes n m (suc L) d a pieces

  pub asked-after : (L : ℕ) (due : Due) (a : Asked) (line another : List ℕ) (more : List (List ℕ))
      → asked_from passes n m L due a (line ∷ another ∷ more) ≡ after L (another ∷ more) (line_step passes n m L due a line)
  unfolding asked_from
  asked-after L due a line another more = by_step (line_step passes n m L due a line)
    where
      by_step : (st : AskedStep)
          → (elim st [ fault r ↦ refused r L | next (d, b) ↦ asked_from passes n m (suc L) d b (another ∷ more) ]) ≡ after L (another ∷ more) st
      by_step (fault r) = refl
      by_step (next (d, b)) = refl

  -- the same where the pieces are those of a text
  pub asked-on : (L : ℕ) (due : Due) (a : Asked) (line rest : List ℕ)
      → asked_from passes n m L due a (line ∷ split newline rest) ≡ after L (split newline rest) (line_step passes n m L due a line)
  asked-on L due a line rest =
      some_piece newline (λ q. asked_from passes n m L due a (line ∷ q) ≡ after L q (line_step passes n m L due a line)) (asked-after L due a line) rest

  -- ---- by the first line of what is left

  module _ (L : ℕ) (due : Due) (a : Asked) (s : List ℕ) where
    pub rest-ends : split newline s ≡ s ∷ [] → asked_from passes n m L due a (split newline s) ≡ ending due a s L
    unfolding asked_from
    rest-ends p = ap (asked_from passes n m L due a) p

    module _ (line rest : List ℕ) (p : split newline s ≡ line ∷ split newline rest) where
      rest_by : {st : AskedStep} → line_step passes n m L due a line ≡ st → asked_from passes n m L due a (split newline s) ≡ after L (split newline rest) st
      rest_by e = ap (asked_from passes n m L due a) p ∙ asked-on L due a line rest ∙ ap (after L (split newline rest)) e

      pub rest-faults : {x : Refusal} → line_step passes n m L due a line ≡ fault x → asked_from passes n m L due a (split newline s) ≡ refused x L
      rest-faults e = rest_by e

      pub rest_goes_on : {d : Due} {b : Asked} → line_step passes n m L due a line ≡ next (d, b)
          → asked_from passes n m (L + 1) d b (split newline rest) ≡ asked_from passes n m L due a (split newline s)
      rest_goes_on {d} {b} e = ap (λ (k : ℕ). asked_from passes n m k d b (split newline rest)) (add-one L) ∙ sym (rest_by e)

-- ---- the whole

module _ (before : ℕ) (passes : Bool) (n m : ℕ) (s : List ℕ) where
  pub too_long : 65536 < length s → question_meaning before passes n m s ≡ refused SheetLength 0
  unfolding question_meaning
  too_long h = ap (λ (b : Bool). cond b (refused SheetLength 0) (asked_from passes n m (suc before) Team nothing_asked (split newline s))) (lt-ltb 65536 (length s) h)

  pub not-long : length s ≤ 65536 → question_meaning before passes n m s ≡ asked_from passes n m (suc before) Team nothing_asked (split newline s)
  unfolding question_meaning
  not-long h = ap (λ (b : Bool). cond b (refused SheetLength 0) (asked_from passes n m (suc before) Team nothing_asked (split newline s))) (le-ltb 65536 (length s) h)

-- the piece after the last byte 10
pub ended : (due : Due) (a : Asked) (rest : List ℕ) (L : ℕ) → (due ≡ Asks → ⊥) → ending due a rest L ≡ refused (Malformed L) L
ended Team a rest L ne = refl
ended Known a rest L ne = refl
ended Held a rest L ne = refl
ended Make a rest L ne = refl
ended Asks a rest L ne = absurd (ne refl)

pub ended_late : (a : Asked) (rest : List ℕ) (L : ℕ) → (length rest ≡ 0 → ⊥) → ending Asks a rest L ≡ refused (Malformed L) L
ended_late a [] L ne = absurd (ne refl)
ended_late a (c ∷ rest) L ne = refl

pub ended-whole : (a : Asked) (rest : List ℕ) (L : ℕ) → length rest ≡ 0 → ending Asks a rest L ≡ asked a
ended-whole a [] L e = refl
ended-whole a (c ∷ rest) L e = absurd (omega arith)

-- ---- the nearest of 1 to `most`

module _ (most x : ℕ) where
  pub within_over : most < x → within most x ≡ most
  unfolding within
  within_over h = ap (λ (b : Bool). cond b most (cond (ltb x 1) 1 x)) (lt-ltb most x h)

  module _ (h : x ≤ most) where
    within_by : (b : Bool) → ltb x 1 ≡ b → within most x ≡ cond b 1 x
    unfolding within
    within_by b e = ap (λ (b : Bool). cond b most (cond (ltb x 1) 1 x)) (le-ltb most x h) ∙ ap (λ (b : Bool). cond b 1 x) e

    pub within_under : x < 1 → within most x ≡ 1
    within_under l = within_by true (lt-ltb x 1 l)

    pub within_same : 1 ≤ x → within most x ≡ x
    within_same l = within_by false (le-ltb x 1 l)

  pub clamped : 1 ≤ most → max 1 (min x most) ≡ within most x
  clamped l = elim (lt_or_ge most x) [
    | inl h ↦ omega (arith, within_over h)
    | inr h ↦ elim (lt_or_ge x 1) [ inl k ↦ omega (arith, within_under h k) | inr k ↦ omega (arith, within_same h k) ]
  ]

-- a text that is not too long is read line by line, over the nearest numbers
pub whole-read : (before : ℕ) (passes : Bool) (settings posts : ℕ) (s : List ℕ) {n m : ℕ} (x : Result AskedDesk Fault)
    → n ≡ within 7 settings → m ≡ within 8 posts → length s ≤ 65536
    → ReadsQuestion n (asked_from passes n m (before + 1) Team nothing_asked (split newline s)) x
    → ReadsQuestion (within 7 settings) (question_meaning before passes (within 7 settings) (within 8 posts) s) x
whole-read before passes settings posts s {n} {m} x e f h r =
    subst₂ (λ (i j : ℕ). ReadsQuestion i (question_meaning before passes i j s) x) e f
    (subst (λ (o : QuestionMeaning). ReadsQuestion n o x)
    (ap (λ (L : ℕ). asked_from passes n m L Team nothing_asked (split newline s)) (add-one before) ∙ sym (not-long before passes n m s h)) r)
