-- `one_leg` meets its contract, by what is read of the leg.
use Rattle.std.proofs.Common.{ap, true}
use Rattle.std.proofs.lemmas.Result.{err_from_is_err_and}
use Rattle.sheet_question.specs.Question.{question_meaning}
use Rattle.sheet_question.specs.Reads.{within}
use Rattle.sheet_legs.specs.Legs.{one_leg}
use Rattle.sheet_legs.proofs.LegLaws.{leg_refused, leg_asked, legs_refused, legs_one}
use Rattle.sheet_legs.proofs.one_leg.Goals as goal

pub returns-in_err-first : goal.returns-in_err-first
returns-in_err-first c =
    let x = c.args in
    let n = within 7 x.settings in
    let p = err_from_is_err_and c.from_residual.result c.from_residual.ensures.1 in
    rw (p.1, p.2) (legs_refused n c.in_err-first.field-0.0 (ap one_leg (leg_refused n (question_meaning 0 true n (within 8 x.posts) x.text.now) c.in_err-first.ensures)))

pub returns : goal.returns
returns c =
    let x = c.args in
    let n = within 7 x.settings in
    let w = leg_asked n (question_meaning 0 true n (within 8 x.posts) x.text.now) c.in_ok-first.ensures in
    legs_one n (ap one_leg w.1) w.2
