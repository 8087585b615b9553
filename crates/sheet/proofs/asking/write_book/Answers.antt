-- `write_book` meets its contract: the rights on the desk may be written, and the room is long enough.
use Rattle.std.proofs.Common.{sym, refl}
use Rattle.sheet.specs.Inner.{rights_in}
use Rattle.sheet.proofs.DeskRights.{rights_length}
use Rattle.sheet.proofs.DeskQuestion.{desk_written, book_written}
use Rattle.sheet.proofs.asking.write_book.Goals as goal

pub slice_bounds-write-end : goal.slice_bounds-write-end
unfolding rights_in
slice_bounds-write-end c = sym (rights_length c.requires.0.holds)

pub unwrap-requires : goal.unwrap-requires
unfolding rights_in
unwrap-requires c = rw (desk_written c.requires.0 c.args.book.now c.write.new.room c.write.result c.requires.1 c.write.ensures) refl

pub returns : goal.returns
unfolding rights_in
returns c = book_written c.requires.0 c.args.book.now c.write.new.room c.write.result c.requires.1 c.write.ensures
