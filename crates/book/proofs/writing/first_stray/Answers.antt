-- `book::writing::first_stray` meets its contract: the settings before i have tables as they must be.
use borrow.Author.Count.{below_more}
use Rattle.ground.specs.Tells.{Tells}
use Rattle.ground.proofs.Answers.{told, untold, tells_iff}
use Rattle.book_block.specs.Kinds.{Tables}
use Rattle.book_sound.specs.Sound.{tables_of}
use Rattle.book.proofs.RefusalLaws.{tables-there, tables-here}
use Rattle.book.proofs.writing.first_stray.Goals as goal
use Rattle.book.proofs.writing.first_stray.Goals.{After-are_tables}

-- the test was whether the tables of setting i are as they must be
tested : (c : After-are_tables) → Tells c.are_tables.result (Tables c.args.n c.args.m (tables_of c.args.rights.now c.loop-i.i))
tested c = tells_iff c.are_tables.result (tables-there c.args.rights.now c.loop-i.i) (tables-here c.args.rights.now c.loop-i.i) c.are_tables.ensures

pub returns-then-not-are_tables : goal.returns-then-not-are_tables
returns-then-not-are_tables c =
    record {
      within = c.loop-i-test.true;
      before = c.loop-i.invariant;
      here = untold _ c.are_tables.result (tested (goal.at.returns-then-not-are_tables c).After-are_tables) c.if-not-are_tables.true;
    }

pub loop-i-preserved : goal.loop-i-preserved
loop-i-preserved c =
    below_more _ c.loop-i.i c.loop-i.invariant (told _ c.are_tables.result (tested (goal.at.loop-i-preserved c).After-are_tables) c.if-not-are_tables.false)
