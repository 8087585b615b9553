-- `read_act` meets its contract: 17 before 18, and 32 after it.
use mathlib.Core.Path.{◌≡◌, sym, ◌∙◌}
use native.Mathlib.Omega.{arith}
use Rattle.ground.specs.Digits.{digit}
use Rattle.question.specs.Permitted.{permitted}
use Rattle.plancheck.proofs.ReadingLaws.{permits-at, offered-setting, act_forbidden, act_idle, act_done}
use Rattle.plancheck.proofs.reading.read_act.Goals as goal
use Rattle.plancheck.proofs.reading.read_act.Goals.{After-permits}

-- what was said of the act is what is permitted at the number
said : (c : After-permits) → permitted c.args.n c.args.book.now c.args.held (digit 7 c.args.k) c.args.act ≡ c.permits.result
said c = permits-at c.args.n c.args.book.now c.args.held c.args.k c.args.act c.requires.0 c.requires.1 c.from_number.ensures c.permits.ensures

pub outcomes_of-requires : goal.outcomes_of-requires
outcomes_of-requires c =
    let below = offered-setting c.args.n c.args.team c.args.act (sym c.offered.ensures ∙ c.if-not-offered.false) in
    (c.requires.1, omega (arith, c.requires.0, below))

pub returns-in-Denied : goal.returns-in-Denied
returns-in-Denied c =
    act_forbidden c.args.at c.args.k c.args.act (sym c.offered.ensures ∙ c.if-not-offered.false)
    (said (goal.at.returns-in-Denied c).After-permits ∙ c.in-Denied.is)

pub returns-in-ChangesNothing : goal.returns-in-ChangesNothing
returns-in-ChangesNothing c =
    act_idle c.args.at c.args.k c.args.act (sym c.offered.ensures ∙ c.if-not-offered.false)
    (said (goal.at.returns-in-ChangesNothing c).After-permits ∙ c.in-ChangesNothing.is)

pub returns-in-Given : goal.returns-in-Given
returns-in-Given c =
    act_done c.args.at c.args.k c.args.act (sym c.offered.ensures ∙ c.if-not-offered.false)
    (said (goal.at.returns-in-Given c).After-permits ∙ c.in-Given.is) c.outcomes_of.ensures
