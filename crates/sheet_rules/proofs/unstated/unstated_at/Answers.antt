-- `unstated_at` meets its contract: by the tests on the place.
use Rattle.sheet_rules.proofs.HoldLaws.{past-settings, past-posts, a_look, a_set}
use Rattle.sheet_rules.proofs.unstated.unstated_at.Goals as goal

pub returns-then-n-slot : goal.returns-then-n-slot
returns-then-n-slot c =
    let a = c.args in
    past-settings a.n a.m a.looks a.sets a.slot c.if-n-slot.true

pub returns-then-m-slot : goal.returns-then-m-slot
returns-then-m-slot c =
    let a = c.args in
    past-posts a.n a.m a.looks a.sets a.slot c.if-n-slot.false c.if-m-slot.true

pub returns-then-slot-eq0 : goal.returns-then-slot-eq0
returns-then-slot-eq0 c =
    let a = c.args in
    a_look a.n a.m a.looks a.sets a.slot c.if-n-slot.false c.if-m-slot.false c.if-slot-eq0.true

pub returns-else-slot-eq0 : goal.returns-else-slot-eq0
returns-else-slot-eq0 c =
    let a = c.args in
    a_set a.n a.m a.looks a.sets a.slot c.if-n-slot.false c.if-m-slot.false c.if-slot-eq0.false
