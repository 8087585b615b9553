-- `marks_of` meets its contract: after i turns there is a mark for each of i settings whose block does not stand.
use Rattle.book_salvage.proofs.MarkLaws.{MarkedTo}
use Rattle.book_salvage.proofs.marking.marks_of.Given as goal

abbrev pub invariant-loop-i : goal.invariant-loop-i
invariant-loop-i l = MarkedTo l.book l.n l.m l.i l.marks
