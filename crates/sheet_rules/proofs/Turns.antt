-- A line at fault, a line that is taken, and each way out of the function for a right's formula.
use mathlib.Core.Path.{◌≡◌, refl, sym, ap}
use mathlib.Core.List.{List}
use Prim.Native.Nat.{ℕ}
use Rattle.std.proofs.Common.{Ok, Err}
use Rattle.refusal.specs.declared.Refusal.{Refusal}
use Rattle.formula.specs.Read.{Accepts}
use Rattle.std.proofs.Common.{Ok, Err}
use Rattle.sheet_words.specs.Steps.{Step, fault, next, unless_refused}
use Rattle.sheet_rules.specs.Rules.{Rules}
use Rattle.sheet_rules.specs.Desk.{OnDesk}
use Rattle.sheet_rules.specs.Turns.{ruled_desk, Turns}
use Rattle.sheet_rules.specs.declared.desk.RulesDesk.{RulesDesk}
use Rattle.sheet_rules.proofs.StepLaws.{accepted-step}

-- a line at fault
pub faulty : {st : Step Rules} {why : Refusal} → st ≡ fault why → Turns st (Err why)
faulty e = rw e refl

-- a line that is taken
pub taken : {st : Step Rules} {rules : Rules} {d : RulesDesk} → st ≡ next rules → OnDesk rules d → Turns st (Ok d)
taken e h = rw e h

-- ---- a turn tells the step

pub faulted : (st : Step Rules) {why : Refusal} → Turns st (Err why) → st ≡ fault why
faulted (fault x) e = ap fault (sym e)
faulted (next rules) e = absurd e

pub went_on : (st : Step Rules) {d : RulesDesk} → Turns st (Ok d) → (rules : Rules) × (st ≡ next rules) × OnDesk rules d
went_on (fault x) e = absurd e
went_on (next rules) h = (rules, refl, h)

-- ---- a formula

pub formula_taken : (n : ℕ) (F : List ℕ) (d : RulesDesk) (slot : ℕ) (rules : Rules) {t : List ℕ} → Accepts n F t
    → ((t : List ℕ) → Accepts n F t → OnDesk rules (ruled_desk d slot t)) → Turns (unless_refused n F (next rules)) (Ok (ruled_desk d slot t))
formula_taken n F d slot rules {t} r holds = taken (accepted-step n F (next rules) r) (holds t r)
