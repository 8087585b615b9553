-- What a line with a formula does, from its tests: one equation for each way through a step.
use mathlib.Core.Path.{◌≡◌, refl, ap, ap₂}
use mathlib.Core.Bool.{Bool, true, false, ◌&&◌}
use mathlib.Core.List.{List}
use Prim.Native.Nat.{ℕ}
use lib.Dec.{ltb}
use lib.ListN.{length, drop}
use Rattle.ground.specs.Text.{bytes}
use Rattle.refusal.specs.declared.Refusal.{Refusal}
use Rattle.refusal.specs.declared.Refusal.TheVariants.{Malformed}
use Rattle.formula.specs.Read.{ReadsFormula, Accepts}
use Rattle.formula.specs.Computed.{without_table}
use Rattle.std.proofs.Common.{Result, Ok, Err}
use Rattle.formula.proofs.Computed.{read_computed}
use Rattle.sheet_words.specs.Words.{begins, passed_over}
use Rattle.sheet_words.specs.Steps.{fault, next, unless, unless_answered, unless_refused}
use Rattle.sheet_question.specs.Asked.{Asked}
use Rattle.sheet_question.specs.LineSteps.{AskedStep, with_make, with_ask, held_step, make_step, ask_step, held_or, held_or_make, due_step, unless_passed, line_step}
use Rattle.sheet_question.specs.declared.desk.Due.{Due}
use Rattle.sheet_question.specs.declared.desk.Due.TheVariants.{Asks}

-- ---- a formula

module _ (n : ℕ) (F : List ℕ) (later : AskedStep) where
  answered : (a : Result (List ℕ) Refusal) → ReadsFormula n F a → unless_refused n F later ≡ unless_answered (without_table a) later
  unfolding unless_refused
  answered a r = ap (λ (x : Result (Unit {0}) Refusal). unless_answered x later) (read_computed n F a r)

  pub refused-step : {why : Refusal} → ReadsFormula n F (Err why) → unless_refused n F later ≡ fault why
  refused-step {why} r = answered (Err why) r

  pub accepted-step : {t : List ℕ} → Accepts n F t → unless_refused n F later ≡ later
  accepted-step {t} r = answered (Ok t) r

-- ---- `make` and `ask`

module _ (n L : ℕ) (a : Asked) (line : List ℕ) where
  pub make_by : (b : Bool) → begins (bytes "make ") line ≡ b
      → make_step n L a line ≡ unless b (Malformed L) (unless_refused n (drop 5 line) (next (Asks, with_make a (drop 5 line))))
  unfolding make_step
  make_by b p = ap (λ (b : Bool). unless b (Malformed L) (unless_refused n (drop 5 line) (next (Asks, with_make a (drop 5 line))))) p

  pub ask_by : (b c : Bool) → begins (bytes "ask ") line ≡ b → ltb (length a.asks) 4 ≡ c
      → ask_step n L a line ≡ unless (b && c) (Malformed L) (unless_refused n (drop 4 line) (next (Asks, with_ask a (drop 4 line))))
  unfolding ask_step
  ask_by b c p q = ap₂ (λ (b c : Bool). unless (b && c) (Malformed L) (unless_refused n (drop 4 line) (next (Asks, with_ask a (drop 4 line))))) p q

  -- ---- `held`, or `make`

  pub held_by : (b : Bool) → begins (bytes "held") line ≡ b → held_or_make n L a line ≡ held_or b (held_step n L a line) (make_step n L a line)
  unfolding held_or_make
  held_by b p = ap (λ (b : Bool). held_or b (held_step n L a line) (make_step n L a line)) p

-- ---- a line that is passed over, and one that is not

module _ (n m L : ℕ) (due : Due) (a : Asked) (line : List ℕ) where
  pub line_by : (passes b : Bool) → (passes && passed_over line) ≡ b → line_step passes n m L due a line ≡ unless_passed b due a (due_step n m L due a line)
  unfolding line_step
  line_by passes b e = ap (λ (b : Bool). unless_passed b due a (due_step n m L due a line)) e

  pub not_passed : (passes : Bool) → passed_over line ≡ false → line_step passes n m L due a line ≡ due_step n m L due a line
  not_passed true e = line_by true false e
  not_passed false e = line_by false false refl
