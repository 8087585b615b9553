-- `read` meets its contract: the refusals in the written order.
use native.Mathlib.Omega.{arith}
use Rattle.ground.specs.Bounds.{SettingsFit}
use Rattle.formula_grammar.proofs.BrokenLaws.{sum-short}
use Rattle.formula.specs.Read.{LengthFits}
use Rattle.formula.proofs.Answers.{broken, whole}
use Rattle.formula.proofs.read.Goals as goal
use Rattle.formula.proofs.read.Goals.{After-scan}

settings : (c : After-scan) → SettingsFit c.args.n
settings c = record { least = omega arith; most = omega arith }

size : (c : After-scan) → LengthFits c.args.text.now
size c = (omega arith, omega arith)

pub returns-in-Err : goal.returns-in-Err
returns-in-Err c =
    let at = (goal.at.returns-in-Err c).After-scan in
    broken c.args.n c.args.text.now (settings at) (size at) c.in_ok-scan.ensures c.in-Err.at (c.in-Err.ensures.broken 0)

pub returns-then-part-text : goal.returns-then-part-text
returns-then-part-text c =
    let at = (goal.at.returns-then-part-text c).After-scan in
    broken c.args.n c.args.text.now (settings at) (size at) c.in_ok-scan.ensures c.in-Ok.part.end (sum-short c.in-Ok.ensures c.if-part-text.true)

pub returns : goal.returns
returns c =
    let at = (goal.at.returns c).After-scan in
    whole c.args.n c.args.text.now (settings at) (size at) c.in_ok-scan.ensures c.in-Ok.ensures c.if-part-text.false c.within.ensures c.bytes.ensures
