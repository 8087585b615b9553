-- A text without lines that are passed over reads the same whether it may have them or not. Line by line.
use mathlib.Core.Path.{◌≡◌, refl, sym, ap, ◌∙◌}
use mathlib.Core.Logic.{inl, inr}
use mathlib.Core.Bool.{true, false, not}
use mathlib.Core.List.{List, [], ◌∷◌}
use Prim.Native.Nat.{ℕ, suc}
use lib.Dec.{T}
use lib.ListN.{length}
use Rattle.ground.proofs.Bools.{lt_or_ge, T→false, and_left, and_right}
use Rattle.sheet_words.specs.Words.{split, newline, passed_over, none_passed}
use Rattle.sheet_words.specs.Steps.{fault, next}
use Rattle.sheet_question.specs.Asked.{Asked, nothing_asked}
use Rattle.sheet_question.specs.LineSteps.{AskedStep, line_step}
use Rattle.sheet_question.specs.Question.{asked_from, question_meaning}
use Rattle.sheet_question.specs.declared.desk.Due.{Due}
use Rattle.sheet_question.specs.declared.desk.Due.TheVariants.{Team}
use Rattle.sheet_question.proofs.StepLaws.{not_passed}
use Rattle.sheet_question.proofs.ReadLaws.{after, asked-after, too_long, not-long}

module _ (line another : List ℕ) (more : List (List ℕ)) (h : T (none_passed (line ∷ another ∷ more))) where
  first-not : passed_over line ≡ false
  unfolding none_passed
  first-not = T→false (passed_over line) (and_left (not (passed_over line)) (none_passed (another ∷ more)) h)

  others_not : T (none_passed (another ∷ more))
  unfolding none_passed
  others_not = and_right (not (passed_over line)) (none_passed (another ∷ more)) h

module _ (n m : ℕ) where
  same_after : (L : ℕ) (pieces : List (List ℕ)) (x : AskedStep)
      → ((d : Due) (b : Asked) → asked_from true n m (suc L) d b pieces ≡ asked_from false n m (suc L) d b pieces) → after true n m L pieces x ≡ after false n m L pieces x
  same_after L pieces (fault r) more = refl
  same_after L pieces (next (d, b)) more = more d b

  pub asked-none_passed : (L : ℕ) (due : Due) (a : Asked) (pieces : List (List ℕ)) → T (none_passed pieces) → asked_from true n m L due a pieces ≡ asked_from false n m L due a pieces
  unfolding asked_from
  asked-none_passed L due a [] h = refl
  asked-none_passed L due a (rest ∷ []) h = refl
  asked-none_passed L due a (line ∷ another ∷ more) h =
      asked-after true n m L due a line another more
      ∙ ap (after true n m L (another ∷ more)) (not_passed n m L due a line true (first-not line another more h) ∙ sym (not_passed n m L due a line false (first-not line another more h)))
      ∙ same_after L (another ∷ more) (line_step false n m L due a line) (λ d b. asked-none_passed (suc L) d b (another ∷ more) (others_not line another more h))
      ∙ sym (asked-after false n m L due a line another more)

pub none_passed_same : (before n m : ℕ) (s : List ℕ) → T (none_passed (split newline s)) → question_meaning before true n m s ≡ question_meaning before false n m s
none_passed_same before n m s h = elim (lt_or_ge 65536 (length s)) [
  | inl l ↦ too_long before true n m s l ∙ sym (too_long before false n m s l)
  | inr l ↦ not-long before true n m s l ∙ asked-none_passed n m (suc before) Team nothing_asked (split newline s) h ∙ sym (not-long before false n m s l)
]
