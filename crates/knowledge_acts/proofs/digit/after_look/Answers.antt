-- `knowledge_acts::digit::after_look` meets its contract: the two outcomes.
use Rattle.knowledge_acts.specs.Seven.{after_look}
use Rattle.knowledge_acts.proofs.digit.after_look.Goals as goal

pub returns-then-value : goal.returns-then-value
unfolding after_look
returns-then-value c = rw c.if-value.true

pub returns-else-value : goal.returns-else-value
unfolding after_look
returns-else-value c = rw c.if-value.false
