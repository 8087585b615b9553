-- `ask` meets its contract: the book's refusals, then 10, 11, 31 and 12.
use Rattle.std.proofs.lemmas.Result.{err_from_is_err_and}
use Rattle.question.proofs.RowLaws.{book_row, team-row, known-row, held-row, goal-row}
use Rattle.question.proofs.ask.Goals as goal

pub returns-in_err-size : goal.returns-in_err-size
returns-in_err-size c =
    let p = err_from_is_err_and c.from_residual.result c.from_residual.ensures.1 in
    rw (p.1, p.2) (book_row _ _ _ c.in_err-size.ensures)

pub returns-then-not-team_fits : goal.returns-then-not-team_fits
returns-then-not-team_fits c = team-row _ _ _ c.in_ok-size.ensures c.if-not-team_fits.ensures

pub returns-then-not-known_fits : goal.returns-then-not-known_fits
returns-then-not-known_fits c = known-row _ _ _ c.in_ok-size.ensures c.if-not-team_fits.ensures c.if-not-known_fits.ensures

pub returns-then-not-held_fits : goal.returns-then-not-held_fits
returns-then-not-held_fits c =
    held-row _ _ _ c.in_ok-size.ensures c.if-not-team_fits.ensures c.if-not-known_fits.ensures c.if-not-held_fits.ensures

pub returns-then-not-goal_fits : goal.returns-then-not-goal_fits
returns-then-not-goal_fits c =
    goal-row _ _ _ c.in_ok-size.ensures c.if-not-team_fits.ensures c.if-not-known_fits.ensures c.if-not-held_fits.ensures c.if-not-goal_fits.ensures
