-- `find_legs` meets its contract: what is on the desks is handed to the finder as it is.
use Rattle.sheet_ask.specs.Inner.{learn_in}
use Rattle.sheet_ask.proofs.two.find_legs.Goals as goal

pub returns : goal.returns
unfolding learn_in
returns c = rw (c.goal.ensures, c.goal-2.ensures) at c.find_two.ensures
