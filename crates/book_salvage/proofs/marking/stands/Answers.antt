-- `stands` meets its contract: its two tests are the two parts of `Stands`.
use Prim.Native.Nat.{◌+◌}
use Rattle.ground.proofs.Answers.{told, untold, tells_iff, tells_no}
use Rattle.ground.specs.Tells.{Tells}
use Rattle.book_block.specs.Check.{block, RightCheck}
use Rattle.book_block.proofs.CheckLaws.{right-block, right-drop}
use Rattle.book_block.proofs.BlockLaws.{setting-block, setting-drop}
use Rattle.book_salvage.proofs.marking.stands.Goals as goal
use Rattle.book_salvage.proofs.marking.stands.Goals.{After-is_right}

right : (c : After-is_right) → Tells c.is_right.result (RightCheck (block c.args.book.now (1 + c.args.i)))
right c = tells_iff c.is_right.result (right-block c.args.book.now (1 + c.args.i)) (right-drop c.args.book.now (1 + c.args.i)) c.is_right.ensures

pub returns-then-is_right : goal.returns-then-is_right
returns-then-is_right c =
    let a = c.args in
    let checked = told _ c.is_right.result (right (goal.at.returns-then-is_right c).After-is_right) c.if-is_right.true in
    tells_iff c.is_setting.result
    (λ clean. record { check = checked; clean = setting-block a.book.now (1 + a.i) clean })
    (λ s. setting-drop a.book.now (1 + a.i) s.clean)
    c.is_setting.ensures

pub returns-else-is_right : goal.returns-else-is_right
returns-else-is_right c =
    tells_no c.is_right.result c.if-is_right.false
    (λ s. untold _ c.is_right.result (right (goal.at.returns-else-is_right c).After-is_right) c.if-is_right.false s.check)
