-- `found_as` meets its contract, case by case.
use mathlib.Core.Path.{sym, ap, ◌∙◌}
use Rattle.std.specs.Prelude.{Ok}
use Rattle.exports.specs.Returned.{find_returned}
use Rattle.exports.proofs.packing.found_as.Goals as goal

pub returns-in-Reach : goal.returns-in-Reach
returns-in-Reach c = sym (ap find_returned (c.in-Ok.is ∙ ap Ok c.in-Reach.is))

pub returns-in-Cannot : goal.returns-in-Cannot
returns-in-Cannot c = sym (ap find_returned (c.in-Ok.is ∙ ap Ok c.in-Cannot.is))

pub returns-in-Err : goal.returns-in-Err
returns-in-Err c = c.packed.ensures ∙ sym (ap find_returned c.in-Err.is)
