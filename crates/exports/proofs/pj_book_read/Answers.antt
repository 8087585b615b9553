-- `pj_book_read` meets its contract: the answer and the room are the reader's.
use mathlib.Core.Path.{sym, ap, ◌∙◌}
use Rattle.exports.specs.Returned.{read_returned}
use Rattle.exports.proofs.pj_book_read.Goals as goal

pub returns-in-Ok : goal.returns-in-Ok
returns-in-Ok c = record { answer = c.read.result; reads = c.read.ensures; result_is = sym (ap read_returned c.in-Ok.is) }

pub returns-in-Err : goal.returns-in-Err
returns-in-Err c = record { answer = c.read.result; reads = c.read.ensures; result_is = c.packed.ensures ∙ sym (ap read_returned c.in-Err.is) }
