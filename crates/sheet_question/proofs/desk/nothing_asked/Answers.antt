-- `nothing_asked` meets its contract: zeros everywhere.
use Rattle.sheet_question.proofs.Zeros.{nothing_on_desk}
use Rattle.sheet_question.proofs.desk.nothing_asked.Goals as goal

pub returns : goal.returns
returns c = nothing_on_desk
