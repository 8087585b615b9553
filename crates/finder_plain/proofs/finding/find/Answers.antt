-- `find` meets its contract: refusals 6 to 12, then the search from the start, with nothing remembered.
use mathlib.Core.Path.{refl}
use Rattle.question.proofs.AskLaws.{start_is}
use Rattle.finder_plain.proofs.FindLaws.{first_searches, answered}
use Rattle.finder_plain.proofs.finding.find.Goals as goal

pub first_height-requires : goal.first_height-requires
first_height-requires c =
    first_searches c.in_ok-n.ensures (start_is c.args.question c.at_start.ensures c.number-start.ensures) 823543 refl

pub returns : goal.returns
returns c =
    answered c.in_ok-n.ensures (start_is c.args.question c.at_start.ensures c.number-start.ensures) c.first_height.result c.first_height.ensures
