-- `knowledge_judging::judging::judge` meets its contract: by the count of settings, then true at all, then false at all.
use mathlib.Core.Path.{◌≡◌, sym, ◌∙◌}
use mathlib.Core.Bool.{true, false}
use lib.ListN.{drop}
use borrow.Author.Tests.{le-leb}
use Rattle.knowledge.specs.Number.{digit_in}
use Rattle.knowledge.specs.Fits.{always}
use Rattle.knowledge.specs.Judgement.{judgement}
use Rattle.knowledge_judging.specs.Sides.{told_of}
use Rattle.knowledge_judging.proofs.WalkLaws.{walks_all}
use Rattle.knowledge_judging.proofs.judging.judge.Goals as goal
use Rattle.knowledge_judging.proofs.judging.judge.Goals.{After-walk, After-walk-2}

-- each walk tells whether the table has the value at all valuations that fit
true_walk : (c : After-walk) → always true c.args.n (told_of c.args.side (digit_in c.args.state.digits)) (drop c.args.from c.args.bytes.now) ≡ c.walk.result
true_walk c = sym (c.walk.ensures ∙ walks_all c.if-n-gt-MOST.false c.masks_of-masks.ensures _ _)

false_walk : (c : After-walk-2) → always false c.args.n (told_of c.args.side (digit_in c.args.state.digits)) (drop c.args.from c.args.bytes.now) ≡ c.walk-2.result
false_walk c = sym (c.walk-2.ensures ∙ walks_all c.if-n-gt-MOST.false c.masks_of-masks.ensures _ _)

pub returns-then-walk : goal.returns-then-walk
unfolding judgement
returns-then-walk c = rw (le-leb _ _ c.if-n-gt-MOST.false, true_walk (goal.at.returns-then-walk c).After-walk ∙ c.if-walk.true)

pub returns-then-walk-2 : goal.returns-then-walk-2
unfolding judgement
returns-then-walk-2 c =
    let at = goal.at.returns-then-walk-2 c in
    rw (le-leb _ _ c.if-n-gt-MOST.false, true_walk at.After-walk ∙ c.if-walk.false, false_walk at.After-walk-2 ∙ c.if-walk-2.true)

pub returns : goal.returns
unfolding judgement
returns c =
    let at = goal.at.returns c in
    rw (le-leb _ _ c.if-n-gt-MOST.false, true_walk at.After-walk ∙ c.if-walk.false, false_walk at.After-walk-2 ∙ c.if-walk-2.false)
