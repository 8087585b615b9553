-- Each way out of the function for a line with a formula, and for a line that may be passed over: what its tests found is what the step does.
use mathlib.Core.Path.{◌≡◌, refl, sym, ◌∙◌, subst}
use mathlib.Core.Bool.{Bool, true, false, ◌&&◌}
use mathlib.Core.List.{List}
use Prim.Native.Nat.{ℕ, ◌-◌, ◌≤◌, ◌<◌}
use native.Mathlib.Omega.{arith}
use lib.ListN.{length, take, drop}
use borrow.Author.Tests.{lt-ltb, le-ltb}
use Rattle.ground.specs.Text.{bytes}
use Rattle.refusal.specs.declared.Refusal.TheVariants.{Malformed}
use Rattle.refusal.specs.declared.Refusal.{Refusal}
use Rattle.std.proofs.Common.{Result, Ok, Err}
use Rattle.formula.specs.Read.{ReadsFormula, Accepts}
use Rattle.sheet_words.specs.Words.{begins, passed_over}
use Rattle.sheet_words.specs.Steps.{fault, next, unless_refused}
use Rattle.sheet_words.proofs.Pieces.{tail}
use Rattle.sheet_question.specs.Asked.{Asked}
use Rattle.sheet_question.specs.Desk.{AskedOnDesk, Steps}
use Rattle.sheet_question.specs.Places.{make_desk, learn_desk}
use Rattle.sheet_question.specs.declared.desk.Due.{Due}
use Rattle.sheet_question.specs.declared.desk.Due.TheVariants.{Asks}
use Rattle.sheet_question.specs.declared.desk.AskedDesk.{AskedDesk}
use Rattle.sheet_question.specs.declared.desk.Turn.{Turn}
use Rattle.sheet_question.specs.LineSteps.{AskedStep, with_make, with_ask, make_step, ask_step, due_step, line_step}
use Rattle.sheet_question.proofs.StepLaws.{refused-step, accepted-step, make_by, ask_by, line_by}
use Rattle.sheet_question.proofs.DeskLaws.{holds-make, holds_ask}
use Rattle.sheet_question.proofs.Turns.{taken}

-- ---- `make` and `ask`

module _ (n L : ℕ) (a : Asked) (d : AskedDesk) (h : AskedOnDesk n a d) (line : List ℕ) where
  pub make-other : begins (bytes "make ") line ≡ false → make_step n L a line ≡ fault (Malformed L)
  make-other e = make_by n L a line false e

  pub ask_other : begins (bytes "ask ") line ≡ false → ask_step n L a line ≡ fault (Malformed L)
  ask_other e = ask_by n L a line false _ e refl

  pub ask_fifth : begins (bytes "ask ") line ≡ true → 4 ≤ d.asks → ask_step n L a line ≡ fault (Malformed L)
  ask_fifth e m = ask_by n L a line true false e (le-ltb (length a.asks) 4 (omega (arith, h.asks)))

  -- what the formula behind the word does, as it is read
  module _ (e : begins (bytes "make ") line ≡ true) where
    pub make-refused : {why : Refusal} → ReadsFormula n (take (length line - 5) (drop 5 line)) (Err why) → make_step n L a line ≡ fault why
    make-refused {why} r =
        make_by n L a line true e
        ∙ refused-step n (drop 5 line) (next (Asks, with_make a (drop 5 line))) (subst (λ (F : List ℕ). ReadsFormula n F (Err why)) (tail line 5) r)

    pub make-taken : {t : List ℕ} → Accepts n (take (length line - 5) (drop 5 line)) t
        → Steps n (make_step n L a line) (Ok (record { due = Asks; desk = make_desk d t }))
    make-taken {t} r =
        let x = subst (λ (F : List ℕ). Accepts n F t) (tail line 5) r in
        taken n (make_by n L a line true e ∙ accepted-step n (drop 5 line) (next (Asks, with_make a (drop 5 line))) x) (holds-make n a d h (drop 5 line) t x)

  module _ (e : begins (bytes "ask ") line ≡ true) (few : d.asks < 4) where
    asks : ask_step n L a line ≡ unless_refused n (drop 4 line) (next (Asks, with_ask a (drop 4 line)))
    asks = ask_by n L a line true true e (lt-ltb (length a.asks) 4 (omega (arith, h.asks)))

    pub ask-refused : {why : Refusal} → ReadsFormula n (take (length line - 4) (drop 4 line)) (Err why) → ask_step n L a line ≡ fault why
    ask-refused {why} r = asks ∙ refused-step n (drop 4 line) (next (Asks, with_ask a (drop 4 line))) (subst (λ (F : List ℕ). ReadsFormula n F (Err why)) (tail line 4) r)

    pub ask-taken : {t : List ℕ} → Accepts n (take (length line - 4) (drop 4 line)) t
        → Steps n (ask_step n L a line) (Ok (record { due = Asks; desk = learn_desk d t }))
    ask-taken {t} r =
        let x = subst (λ (F : List ℕ). Accepts n F t) (tail line 4) r in
        taken n (asks ∙ accepted-step n (drop 4 line) (next (Asks, with_ask a (drop 4 line))) x) (holds_ask n a d h (drop 4 line) t few x.table.sixteen x)

-- ---- a line that is passed over, and one that is not

module _ (n m L : ℕ) (due : Due) (a : Asked) (passes : Bool) (line : List ℕ) where
  pub passed_on : (d : AskedDesk) → (passes && passed_over line) ≡ true → AskedOnDesk n a d → Steps n (line_step passes n m L due a line) (Ok (record { due = due; desk = d }))
  passed_on d f h = taken n (line_by n m L due a line passes true f) h

  pub read-on : (x : Result Turn Refusal) → (passes && passed_over line) ≡ false → Steps n (due_step n m L due a line) x → Steps n (line_step passes n m L due a line) x
  read-on x f s = subst (λ (st : AskedStep). Steps n st x) (sym (line_by n m L due a line passes false f)) s
