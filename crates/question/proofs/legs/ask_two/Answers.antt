-- `question::legs::ask_two` meets its contract: the first leg's refusals, then 10 and 12 of the second.
use Rattle.std.proofs.lemmas.Result.{err_from_is_err_and}
use Rattle.question.proofs.LegLaws.{first-row, second-team-row, second-goal-row}
use Rattle.question.proofs.legs.ask_two.Goals as goal

pub returns-in_err-size : goal.returns-in_err-size
returns-in_err-size c =
    let p = err_from_is_err_and c.from_residual.result c.from_residual.ensures.1 in
    rw (p.1, p.2) (first-row _ _ _ _ _ c.in_err-size.ensures)

pub returns-then-not-team_fits : goal.returns-then-not-team_fits
returns-then-not-team_fits c = second-team-row _ _ _ _ _ c.in_ok-size.ensures c.if-not-team_fits.ensures

pub returns-then-not-goal_fits : goal.returns-then-not-goal_fits
returns-then-not-goal_fits c = second-goal-row _ _ _ _ _ c.in_ok-size.ensures c.if-not-team_fits.ensures c.if-not-goal_fits.ensures
