-- `learn_within` meets its contract: by the test of each table.
use borrow.Author.Rules.{rules}
use borrow.Author.Tests.{tests}
use Prim.Native.Nat.{◌*◌, ◌/◌}
use lib.ListN.{length, drop}
use native.Mathlib.Omega.{arith}
use Rattle.std.proofs.Common.{refl}
use Rattle.std.proofs.lemmas.Iterator.{YieldsList-from_range, cases_from_all}
use Rattle.ground.specs.Table.{Within}
use Rattle.question.proofs.QuestionLaws.{learn_told}
use Rattle.question.proofs.learn_within.Goals as goal

pub returns : goal.returns
returns c =
    learn_told c.args.n c.args.learn.now c.all.result
    (cases_from_all _ _ _ (λ j. Within c.args.n (drop (16 * j) c.args.learn.now)) (λ j. Within c.args.n (drop (16 * j) c.args.learn.now) → ⊥) c.all.ensures.ran
    (YieldsList-from_range 0 (length c.args.learn.now / 16) (length c.args.learn.now / 16) refl (omega arith)) (λ x q k. search (rules, tests)) (λ x q k. search (rules, tests)))
