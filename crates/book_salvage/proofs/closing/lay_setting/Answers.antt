-- `lay_setting` meets its contract: the block that is written is the one that the mark asks for.
use mathlib.Core.Path.{sym, ◌∙◌}
use native.Mathlib.Omega.{arith}
use Rattle.book_salvage.proofs.LaidLaws.{lay_closed, lay_kept}
use Rattle.book_salvage.proofs.closing.lay_setting.Goals as goal

pub close-requires : goal.close-requires
close-requires c = omega (arith, c.requires)

pub returns-then-bit_of : goal.returns-then-bit_of
returns-then-bit_of c =
    let a = c.args in
    lay_closed a.book.now a.marks a.i a.room.now (sym c.bit_of.ensures ∙ c.if-bit_of.true) c.close.ensures

pub returns : goal.returns
returns c =
    let a = c.args in
    lay_kept a.book.now a.marks a.i a.room.now (sym c.bit_of.ensures ∙ c.if-bit_of.false) c.copy.ensures
