-- A step of a part, of the rules or of the question, carried to the sheet: what may go wrong with a line goes wrong alike in both.
use mathlib.Core.Path.{◌≡◌, refl, ap, ◌∙◌}
use mathlib.Core.Bool.{Bool, true, false, not}
use mathlib.Core.List.{List}
use Prim.Native.Nat.{ℕ}
use Rattle.refusal.specs.declared.Refusal.{Refusal}
use Rattle.refusal.specs.declared.Refusal.TheVariants.{Malformed, Twice}
use Rattle.formula.specs.Computed.{formula_answer}
use Rattle.std.proofs.Common.{Result, Ok, Err}
use Rattle.sheet_words.specs.Words.{twice}
use Rattle.sheet_words.specs.Steps.{Step, fault, next, unless, unless_answered, unless_refused, names_step}
use Rattle.sheet_question.specs.LineSteps.{held_or}

abbrev pub carried : {A B : Type 0} → (A → B) → Step A → Step B
carried f (fault r) = fault r
carried f (next a) = next (f a)

module _ {A B : Type 0} (f : A → B) where
  pub carried_unless : (b : Bool) (r : Refusal) (later : Step A) → carried f (unless b r later) ≡ unless b r (carried f later)
  carried_unless true r later = refl
  carried_unless false r later = refl

  pub carried_refused : (n : ℕ) (F : List ℕ) (later : Step A) → carried f (unless_refused n F later) ≡ unless_refused n F (carried f later)
  unfolding unless_refused
  carried_refused n F later = by_answer (formula_answer n F)
    where
      by_answer : (a : Result (Unit {0}) Refusal) → carried f (unless_answered a later) ≡ unless_answered a (carried f later)
      by_answer (Ok x) = refl
      by_answer (Err r) = refl

  pub carried_names : (L : ℕ) (form : Bool) (names : List ℕ) (later : Step A) → carried f (names_step L form names later) ≡ names_step L form names (carried f later)
  carried_names L form names later =
      carried_unless form (Malformed L) (unless (not (twice (λ i. false) names)) (Twice L) later)
      ∙ ap (unless form (Malformed L)) (carried_unless (not (twice (λ i. false) names)) (Twice L) later)

  pub carried_held : (b : Bool) (x y : Step A) → carried f (held_or b x y) ≡ held_or b (carried f x) (carried f y)
  carried_held true x y = refl
  carried_held false x y = refl
