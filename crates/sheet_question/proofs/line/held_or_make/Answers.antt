-- `held_or_make` meets its contract, by the first bytes of the line.
use mathlib.Core.Path.{sym, ◌∙◌, subst}
use Rattle.sheet_question.specs.Desk.{Steps}
use Rattle.sheet_question.specs.LineSteps.{AskedStep}
use Rattle.sheet_question.proofs.StepLaws.{held_by}
use mathlib.Core.Bool.{true, false}
use Rattle.sheet_question.proofs.line.held_or_make.Goals as goal

pub returns-then-begins : goal.returns-then-begins
returns-then-begins c =
    let x = c.args in
    λ a h. subst (λ (st : AskedStep). Steps x.settings st c.held_line.result)
    (sym (held_by x.settings x.number a x.line.now true (sym c.begins.ensures ∙ c.if-begins.true))) (c.held_line.ensures x.settings a h)

pub returns : goal.returns
returns c =
    let x = c.args in
    λ a h. subst (λ (st : AskedStep). Steps x.settings st c.make_line.result)
    (sym (held_by x.settings x.number a x.line.now false (sym c.begins.ensures ∙ c.if-begins.false))) (c.make_line.ensures a h)
