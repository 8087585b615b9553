-- `write_book` meets its contract: the rights on the desk may be written, so the writer refuses for the room alone.
use Rattle.std.proofs.Common.{sym}
use Rattle.sheet_book.proofs.Rights.{rights_in, rights_length}
use Rattle.sheet_book.proofs.MakeLaws.{book_made, book_refused}
use Rattle.sheet_book.proofs.write_book.Goals as goal

pub slice_bounds-write-end : goal.slice_bounds-write-end
unfolding rights_in
slice_bounds-write-end c = sym (rights_length c.requires.1)

pub returns-in-Err : goal.returns-in-Err
unfolding rights_in
returns-in-Err c = λ rules h. book_refused h c.args.room.now _ c.in-Err.why c.in-Err.ensures

pub returns-in-Ok : goal.returns-in-Ok
unfolding rights_in
returns-in-Ok c = λ rules h. book_made h c.args.room.now _ c.in-Ok.ensures
