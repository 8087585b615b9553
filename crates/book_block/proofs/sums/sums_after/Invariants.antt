-- `book_block::sums::sums_after` meets its contract: after i turns the sums are those after the first i bytes.
use Rattle.std.proofs.Common.{◌≡◌, drop}
use Rattle.book_block.specs.Check.{sums_after}
use Rattle.book_block.proofs.sums.sums_after.Given as goal

abbrev pub invariant-loop-i : goal.invariant-loop-i
invariant-loop-i l = l.sums ≡ sums_after (drop l.from l.bytes) l.i
