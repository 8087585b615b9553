-- `pj_book_write` meets its contract: the answer and the room are the writer's.
use mathlib.Core.Path.{sym, ap, ◌∙◌}
use Rattle.exports.specs.Returned.{write_returned}
use Rattle.exports.proofs.pj_book_write.Goals as goal

pub returns-in-Ok : goal.returns-in-Ok
returns-in-Ok c = record { answer = c.write.result; writes = c.write.ensures; result_is = sym (ap write_returned c.in-Ok.is) }

pub returns-in-Err : goal.returns-in-Err
returns-in-Err c = record { answer = c.write.result; writes = c.write.ensures; result_is = c.packed.ensures ∙ sym (ap write_returned c.in-Err.is) }
