-- `salvage` meets its contract: each way out is the first refusal in the order, or none; then the head block and those of the settings are one
-- run from the first byte of the room on.
use mathlib.Core.Path.{refl}
use native.Mathlib.Omega.{arith}
use borrow.Author.Rules.{rules}
use Rattle.ground.proofs.Answers.{told, untold}
use Rattle.book_sound.specs.Rows.{Whole}
use Rattle.book_sound.proofs.BookLaws.{whole_length}
use Rattle.book_sound.proofs.RefusalLaws.{head-n-most}
use Rattle.book_salvage.specs.Rows.{HeadStands}
use Rattle.book_salvage.proofs.MarkLaws.{ones_counted}
use Rattle.book_salvage.proofs.RefusalLaws.{refuse_length, refuse_head, refuse_room, salvages_to}
use Rattle.book_salvage.proofs.salvage.Goals as goal

pub returns-then-not-is_whole : goal.returns-then-not-is_whole
returns-then-not-is_whole c =
    let b = c.args.book.now in
    (refuse_length b c.args.room.now (untold (Whole b) c.is_whole.result c.is_whole.ensures c.if-not-is_whole.true), refl)

pub returns-then-not-head_stands : goal.returns-then-not-head_stands
returns-then-not-head_stands c =
    let whole : Whole c.args.book.now = search (rules, told) in
    let b = c.args.book.now in (
      refuse_head b c.args.room.now whole
          (untold (HeadStands b) c.head_stands.result c.head_stands.ensures c.if-not-head_stands.true),
      refl,
    )

pub returns-then-room-book : goal.returns-then-room-book
returns-then-room-book c =
    let whole : Whole c.args.book.now = search (rules, told) in
    let head : HeadStands c.args.book.now = search (rules, told) in
    (refuse_room c.args.book.now c.args.room.now whole head c.if-room-book.true, refl)

pub marks_of-marks-requires : goal.marks_of-marks-requires
marks_of-marks-requires c =
    let whole : Whole c.args.book.now = search (rules, told) in
    let head : HeadStands c.args.book.now = search (rules, told) in
    omega (arith, c.peek-n.ensures, head-n-most head.says whole)

pub lay_book-requires : goal.lay_book-requires
lay_book-requires c =
    let whole : Whole c.args.book.now = search (rules, told) in
    let head : HeadStands c.args.book.now = search (rules, told) in
    omega (arith, c.peek-n.ensures, head-n-most head.says whole, whole_length whole, c.if-room-book.false)

pub returns : goal.returns
returns c =
    let whole : Whole c.args.book.now = search (rules, told) in
    let head : HeadStands c.args.book.now = search (rules, told) in
    let a = c.args in
    salvages_to a.book.now a.room.now whole head _ _ _ _ _ c.if-room-book.false c.peek-n.ensures
    c.peek.ensures c.marks_of-marks.ensures (ones_counted _ c.marks_of-marks.type_inv) c.lay_book.ensures
