-- `not_permitted` meets its contract: the second number is the one that its callee gives.
use Rattle.refusal.proofs.not_permitted.Goals as goal

pub returns : goal.returns
returns c = rw c.number.ensures
