-- `find_both` meets its contract: the finder refuses nothing, and its second table is copied behind the first.
use Rattle.sheet_ask.proofs.TwoLaws.{two-found}
use Rattle.sheet_ask.proofs.two.find_both.Goals as goal

pub find_legs-answer-requires : goal.find_legs-answer-requires
find_legs-answer-requires c = (c.requires.learnt, c.requires.learnt2)

pub returns : goal.returns
returns c =
    two-found _ _ _ c.requires _ _ _ _ c.find_legs-answer.ensures c.ranks_room-ranks2.ensures c.copy.ensures
