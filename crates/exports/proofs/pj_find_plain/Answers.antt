-- `pj_find_plain` meets its contract: the answer is the plain finder's.
use mathlib.Core.Path.{sym, ap, ◌∙◌}
use Rattle.std.specs.Prelude.{Ok}
use Rattle.exports.specs.Returned.{plain_returned}
use Rattle.exports.proofs.pj_find_plain.Goals as goal

pub returns-in-Reach : goal.returns-in-Reach
returns-in-Reach c = record { answer = c.find.result; finds = c.find.ensures; result_is = sym (ap plain_returned (c.in-Ok.is ∙ ap Ok c.in-Reach.is)) }

pub returns-in-Cannot : goal.returns-in-Cannot
returns-in-Cannot c = record { answer = c.find.result; finds = c.find.ensures; result_is = sym (ap plain_returned (c.in-Ok.is ∙ ap Ok c.in-Cannot.is)) }

pub returns-in-Err : goal.returns-in-Err
returns-in-Err c = record { answer = c.find.result; finds = c.find.ensures; result_is = c.packed.ensures ∙ sym (ap plain_returned c.in-Err.is) }
