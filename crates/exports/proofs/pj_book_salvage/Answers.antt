-- `pj_book_salvage` meets its contract: the answer and the room are the salvage's.
use mathlib.Core.Path.{sym, ap, ◌∙◌}
use Rattle.exports.specs.Returned.{salvage_returned}
use Rattle.exports.proofs.pj_book_salvage.Goals as goal

pub returns-in-Ok : goal.returns-in-Ok
returns-in-Ok c = record { answer = c.salvage.result; salvages = c.salvage.ensures; result_is = sym (ap salvage_returned c.in-Ok.is) }

pub returns-in-Err : goal.returns-in-Err
returns-in-Err c = record { answer = c.salvage.result; salvages = c.salvage.ensures; result_is = c.packed.ensures ∙ sym (ap salvage_returned c.in-Err.is) }
