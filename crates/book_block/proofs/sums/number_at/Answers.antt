-- `book_block::sums::number_at` meets its contract: each of the two bytes is one that `byte_at` found.
use Rattle.std.proofs.Common.{◌+◌, arith, get_or-drop}
use Rattle.book_block.specs.Check.{number16}
use Rattle.book_block.proofs.sums.number_at.Goals as goal

pub returns : goal.returns
unfolding number16
returns c =
    let a = c.args in
    omega (
      arith,
      c.from_le_bytes.ensures,
      c.byte_at.ensures,
      c.byte_at-2.ensures,
      get_or-drop a.from a.bytes.now a.i 0,
      get_or-drop a.from a.bytes.now (a.i + 1) 0,
    )
