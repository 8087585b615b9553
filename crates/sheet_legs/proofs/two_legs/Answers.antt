-- `two_legs` meets its contract, by what is read of each leg, the first one first.
use Rattle.std.proofs.Common.{ap, ap₂, true}
use Rattle.std.proofs.lemmas.Result.{err_from_is_err_and}
use Rattle.sheet_question.specs.Question.{QuestionMeaning, question_meaning}
use Rattle.sheet_question.specs.Second.{second_meaning}
use Rattle.sheet_question.specs.Reads.{within}
use Rattle.sheet_legs.specs.Legs.{first_then}
use Rattle.sheet_legs.proofs.LegLaws.{leg_refused, leg_asked, legs_refused, legs_two}
use Rattle.sheet_legs.proofs.two_legs.Goals as goal

pub returns-in_err-leg : goal.returns-in_err-leg
returns-in_err-leg c =
    let x = c.args in
    let n = within 7 x.settings in
    let m = within 8 x.posts in
    let p = err_from_is_err_and c.from_residual.result c.from_residual.ensures.1 in
    rw (p.1, p.2) (legs_refused n c.in_err-leg.field-0.0
    (ap (λ (z : QuestionMeaning). first_then z (second_meaning x.number n m x.second.now)) (leg_refused n (question_meaning 0 true n m x.first.now) c.in_err-leg.ensures)))

pub returns-in_err-behind : goal.returns-in_err-behind
returns-in_err-behind c =
    let x = c.args in
    let n = within 7 x.settings in
    let m = within 8 x.posts in
    let p = err_from_is_err_and c.from_residual-in_err-behind.result c.from_residual-in_err-behind.ensures.1 in
    let w = leg_asked n (question_meaning 0 true n m x.first.now) c.in_ok-leg.ensures in
    rw (p.1, p.2) (legs_refused n c.in_err-behind.field-0.0
    (ap₂ first_then w.1 (leg_refused n (second_meaning x.number n m x.second.now) c.in_err-behind.ensures)))

pub returns : goal.returns
returns c =
    let x = c.args in
    let n = within 7 x.settings in
    let m = within 8 x.posts in
    let w = leg_asked n (question_meaning 0 true n m x.first.now) c.in_ok-leg.ensures in
    let v = leg_asked n (second_meaning x.number n m x.second.now) c.in_ok-behind.ensures in
    legs_two n (ap₂ first_then w.1 v.1) w.2 v.2
