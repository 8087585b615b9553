-- A line at fault, a line that is taken; and a turn tells the step.
use Rattle.std.proofs.Common.{◌≡◌, ℕ, refl, sym, ap, Ok, Err}
use Rattle.refusal.specs.declared.Refusal.{Refusal}
use Rattle.sheet_words.specs.Steps.{fault, next}
use Rattle.sheet_question.specs.Asked.{Asked}
use Rattle.sheet_question.specs.LineSteps.{AskedStep}
use Rattle.sheet_question.specs.Desk.{AskedOnDesk, Steps}
use Rattle.sheet_question.specs.declared.desk.Due.{Due}
use Rattle.sheet_question.specs.declared.desk.AskedDesk.{AskedDesk}
use Rattle.sheet_question.specs.declared.desk.Turn.{Turn}

module _ (n : ℕ) where
  -- a line at fault
  pub faulty : {st : AskedStep} {why : Refusal} → st ≡ fault why → Steps n st (Err why)
  faulty e = rw e refl

  -- a line that is taken
  pub taken : {st : AskedStep} {due : Due} {a : Asked} {d : AskedDesk} → st ≡ next (due, a) → AskedOnDesk n a d → Steps n st (Ok (record { due = due; desk = d }))
  taken e h = rw e (refl, h)

  -- ---- a turn tells the step

  pub faulted : (st : AskedStep) {why : Refusal} → Steps n st (Err why) → st ≡ fault why
  faulted (fault x) e = ap fault (sym e)
  faulted (next (due, a)) e = absurd e

  pub went_on : (st : AskedStep) {turn : Turn} → Steps n st (Ok turn) → (a : Asked) × (st ≡ next (turn.due, a)) × AskedOnDesk n a turn.desk
  went_on (fault x) e = absurd e
  went_on (next (now, a)) (e, h) = (a, ap (λ (x : Due). next (x, a)) (sym e), h)
