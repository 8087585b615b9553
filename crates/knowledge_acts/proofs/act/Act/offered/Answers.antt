-- `knowledge_acts::Act::offered` meets its contract: by that of the call, for either kind of act.
use mathlib.Core.Logic.{inl, inr}
use Rattle.knowledge_acts.specs.Acts.{offered}
use Rattle.knowledge_acts.proofs.act.Act.offered.Goals as goal

pub returns : goal.returns
unfolding offered
returns c = elim c.in-Set.is [ inl set ↦ rw set.1 c.offers.ensures | inr look ↦ rw look c.offers.ensures ]
