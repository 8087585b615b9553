-- `book_sound::first_stray` meets its contract: the settings before i have blocks as they must be.
use Prim.Native.Nat.{◌+◌}
use borrow.Author.Count.{below_more}
use Rattle.ground.specs.Tells.{Tells}
use Rattle.ground.proofs.Answers.{told, untold, tells_iff}
use Rattle.book_block.specs.Check.{block}
use Rattle.book_block.specs.Kinds.{SettingBlock}
use Rattle.book_block.proofs.BlockLaws.{setting-block, setting-drop}
use Rattle.book_sound.proofs.first_stray.Goals as goal
use Rattle.book_sound.proofs.first_stray.Goals.{After-is_setting}

-- the test was whether the block of setting i is as it must be
tested : (c : After-is_setting) → Tells c.is_setting.result (SettingBlock c.args.n c.args.m (block c.args.book.now (1 + c.loop-i.i)))
tested c =
    let b = 1 + c.loop-i.i in
    tells_iff c.is_setting.result (setting-block c.args.book.now b) (setting-drop c.args.book.now b) c.is_setting.ensures

pub returns-then-not-is_setting : goal.returns-then-not-is_setting
returns-then-not-is_setting c =
    record {
      within = c.loop-i-test.true;
      before = c.loop-i.invariant;
      here = untold _ c.is_setting.result (tested (goal.at.returns-then-not-is_setting c).After-is_setting) c.if-not-is_setting.true;
    }

pub loop-i-preserved : goal.loop-i-preserved
loop-i-preserved c =
    below_more _ c.loop-i.i c.loop-i.invariant
    (told _ c.is_setting.result (tested (goal.at.loop-i-preserved c).After-is_setting) c.if-not-is_setting.false)
