-- `lay_book` meets its contract: the head block and those of the settings are one run from the first byte of the room on.
use native.Mathlib.Omega.{arith}
use Rattle.book_block.specs.Check.{block}
use Rattle.book_salvage.proofs.LaidLaws.{lay_all}
use Rattle.book_salvage.proofs.closing.lay_book.Goals as goal

pub lay_settings-requires : goal.lay_settings-requires
lay_settings-requires c = omega (arith, c.requires, c.copy.auto.room)

pub returns : goal.returns
unfolding block
returns c =
    let a = c.args in
    lay_all a.book.now a.marks a.n c.requires.1 a.room.now _ _ c.copy.ensures c.lay_settings.ensures
