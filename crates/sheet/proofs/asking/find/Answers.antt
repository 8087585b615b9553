-- `find` meets its contract: the question on the desk is valid, over the book that was written.
use Rattle.std.proofs.Common.{ℕ, ◌∙◌, sym, ap, length, arith}
use lib.ListN.{length-replicate}
use Rattle.sheet.specs.Inner.{learn_in}
use Rattle.sheet.proofs.DeskQuestion.{book_length, desk_found}
use Rattle.sheet.proofs.asking.find.Goals as goal

pub slice_bounds-find-end : goal.slice_bounds-find-end
slice_bounds-find-end c = sym (ap length c.write_book.ensures ∙ book_length c.requires)

pub goal-requires : goal.goal-requires
goal-requires c = omega (arith, c.requires.holds.asked.asks_most)

pub returns : goal.returns
unfolding learn_in
returns c = desk_found c.requires _ _ _ _ _ c.write_book.ensures (length-replicate {A = ℕ} 16807 0) (rw c.goal.ensures at c.find.ensures)
