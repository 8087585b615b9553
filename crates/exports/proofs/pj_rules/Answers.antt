-- `pj_rules` meets its contract: the answer and the room are those of `make_book`.
use mathlib.Core.Path.{sym, ap, ◌∙◌}
use Rattle.exports.specs.Returned.{rules_returned}
use Rattle.exports.proofs.pj_rules.Goals as goal

pub returns-in-Ok : goal.returns-in-Ok
returns-in-Ok c = record { answer = c.make_book.result; makes = c.make_book.ensures; result_is = sym (ap rules_returned c.in-Ok.is) }

pub returns-in-Err : goal.returns-in-Err
returns-in-Err c = record { answer = c.make_book.result; makes = c.make_book.ensures; result_is = c.packed_at.ensures ∙ sym (ap rules_returned c.in-Err.is) }
