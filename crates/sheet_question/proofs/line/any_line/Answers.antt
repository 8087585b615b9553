-- `any_line` meets its contract: a line that is passed over changes nothing, and any other is the line that is due.
use Rattle.std.proofs.Common.{arith}
use Rattle.std.proofs.lemmas.Grind.{common_steps}
use Rattle.sheet_question.proofs.LineTurns.{passed_on, read-on}
use Rattle.sheet_question.proofs.line.any_line.Goals as goal

pub returns-then-passed_over : goal.returns-then-passed_over
returns-then-passed_over c =
    let x = c.args in
    λ a h. passed_on x.settings x.posts x.number x.due a x.passes x.line.now x.desk (grind (arith, common_steps)) h

pub returns : goal.returns
returns c =
    let x = c.args in
    λ a h. read-on x.settings x.posts x.number x.due a x.passes x.line.now
    c.due_line.result (grind (arith, common_steps)) (c.due_line.ensures a h)
