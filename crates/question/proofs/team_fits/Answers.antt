-- `team_fits` meets its contract: a shift leaves nothing of the team exactly where all its posts are below m.
use native.Mathlib.Omega.{arith}
use Rattle.question.proofs.QuestionLaws.{team-tells}
use Rattle.question.proofs.team_fits.Goals as goal

pub returns-then-team-ne0 : goal.returns-then-team-ne0
returns-then-team-ne0 c = rw c.from.ensures (team-tells c.args.m c.args.team (omega (arith, c.ranges.team)) c.if-team-ne0.true)
