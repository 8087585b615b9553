-- `book_block::sums::check_of` meets its contract: after each turn the sums are those of so many bytes, those past the end 0.
use Rattle.std.proofs.Common.{◌≡◌, drop}
use Rattle.book_block.specs.Check.{sums_after}
use Rattle.book_block.proofs.sums.check_of.Given as goal

abbrev pub invariant-loop : goal.invariant-loop
invariant-loop l = l.sums ≡ sums_after (drop l.from l.bytes) l.counter
