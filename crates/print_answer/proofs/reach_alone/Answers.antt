-- `reach_alone` meets its contract: it is the line alone.
use Rattle.print_answer.proofs.Fitted.{prints}
use Rattle.print_answer.proofs.reach_alone.Goals as goal

pub returns : goal.returns
returns c = prints c.reach_line.ensures
