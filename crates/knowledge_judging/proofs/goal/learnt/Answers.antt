-- `knowledge_judging::goal::learnt` meets its contract: by the test of each learn formula.
use borrow.Author.Rules.{rules}
use borrow.Author.Tests.{tests}
use mathlib.Core.Path.{◌≡◌, refl}
use mathlib.Core.Bool.{true, false}
use Prim.Native.Nat.{◌/◌}
use lib.ListN.{length}
use native.Mathlib.Omega.{arith}
use Rattle.std.proofs.lemmas.Iterator.{YieldsList-from_range, cases_from_all}
use Rattle.knowledge.specs.Number.{digit_in}
use Rattle.knowledge_judging.proofs.GoalLaws.{tested, learnt_told}
use Rattle.knowledge_judging.proofs.goal.learnt.Goals as goal

pub returns : goal.returns
returns c =
    let a = c.args in
    learnt_told a.n (digit_in a.state.digits) a.learn.now c.requires c.all.result
    (cases_from_all _ _ _ (λ j. tested a.n (digit_in a.state.digits) a.learn.now j ≡ true) (λ j. tested a.n (digit_in a.state.digits) a.learn.now j ≡ false)
    c.all.ensures.ran (YieldsList-from_range 0 (length a.learn.now / 16) (length a.learn.now / 16) refl (omega arith))
    (λ x q k. search (rules, tests)) (λ x q k. search (rules, tests)))
