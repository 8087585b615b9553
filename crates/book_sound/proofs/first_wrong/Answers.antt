-- `book_sound::first_wrong` meets its contract: the blocks before k have right checks.
use borrow.Author.Count.{below_more}
use Rattle.ground.specs.Tells.{Tells}
use Rattle.ground.proofs.Answers.{told, untold, tells_iff}
use Rattle.book_block.specs.Check.{block, RightCheck}
use Rattle.book_block.proofs.CheckLaws.{right-block, right-drop}
use Rattle.book_sound.proofs.first_wrong.Goals as goal
use Rattle.book_sound.proofs.first_wrong.Goals.{After-is_right}

-- the test was whether block k has a right check
tested : (c : After-is_right) → Tells c.is_right.result (RightCheck (block c.args.book.now c.loop-k.k))
tested c = tells_iff c.is_right.result (right-block c.args.book.now c.loop-k.k) (right-drop c.args.book.now c.loop-k.k) c.is_right.ensures

pub returns-then-not-is_right : goal.returns-then-not-is_right
returns-then-not-is_right c =
    record {
      within = c.loop-k-test.true;
      before = c.loop-k.invariant;
      here = untold _ c.is_right.result (tested (goal.at.returns-then-not-is_right c).After-is_right) c.if-not-is_right.true;
    }

pub loop-k-preserved : goal.loop-k-preserved
loop-k-preserved c =
    below_more _ c.loop-k.k c.loop-k.invariant
    (told _ c.is_right.result (tested (goal.at.loop-k-preserved c).After-is_right) c.if-not-is_right.false)
