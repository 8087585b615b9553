-- `book::read` meets its contract: what `sound` found, then the room, then the rights in it.
use native.Mathlib.Omega.{arith}
use mathlib.Core.Path.{refl}
use Rattle.ground.proofs.Answers.{passed_up}
use Rattle.book.specs.Promise.{ReadsBook}
use Rattle.book.proofs.RefusalLaws.{no_book, no_room}
use Rattle.book.proofs.RoomLaws.{read-room}
use Rattle.book.proofs.reading.read.Goals as goal

pub returns-in_err-size : goal.returns-in_err-size
returns-in_err-size c =
    let a = c.args in
    passed_up (λ r. ReadsBook a.book.now a.room.now r a.room.now) _ c.from_residual.ensures.1 (no_book a.book.now a.room.now c.in_err-size.ensures, refl)

pub returns-then-room-n : goal.returns-then-room-n
returns-then-room-n c = (no_room c.args.room.now c.in_ok-size.ensures c.if-room-n.true, refl)

pub copy_rights-requires : goal.copy_rights-requires
copy_rights-requires c = let s = c.in_ok-size.ensures in omega (arith, s.settings.most, s.size, c.if-room-n.false)

pub returns : goal.returns
returns c = let s = c.in_ok-size.ensures in (s, c.if-room-n.false, read-room c.args.room.now _ s c.if-room-n.false c.copy_rights.ensures)
