-- `team_line` meets its contract, by what the line names.
use Rattle.std.proofs.lemmas.Result.{err_from_is_err_and}
use Rattle.sheet_question.proofs.Turns.{faulty}
use Rattle.sheet_question.proofs.NameTurns.{team-not, team-taken}
use Rattle.sheet_question.proofs.names.team_line.Goals as goal

pub returns-in_err-marks : goal.returns-in_err-marks
returns-in_err-marks c =
    let x = c.args in
    let p = err_from_is_err_and c.from_residual.result c.from_residual.ensures.1 in
    rw (p.1, p.2) (λ n a h. faulty n (team-not n x.number a x.desk h x.line.now x.posts c.in_err-marks.ensures))

pub returns : goal.returns
returns c =
    let x = c.args in
    λ n a h. team-taken n x.number a x.desk h x.line.now x.posts c.in_ok-marks.marks c.in_ok-marks.ensures
