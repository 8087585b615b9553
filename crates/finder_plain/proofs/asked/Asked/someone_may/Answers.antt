-- `someone_may` meets its contract: one post may, or none of them.
use borrow.Author.Rules.{rules}
use borrow.Author.Tests.{tests}
use mathlib.Core.Bool.{true, false, ◌&&◌}
use mathlib.Core.Path.{◌≡◌, refl}
use native.Mathlib.Omega.{arith}
use Rattle.std.proofs.lemmas.Iterator.{YieldsList-from_range, cases_from_any}
use Rattle.knowledge_acts.specs.Acts.{offered}
use Rattle.knowledge_acts.specs.declared.act.Act.{Act}
use Rattle.knowledge.specs.Number.{digit_in}
use Rattle.plan.specs.Plans.{given}
use Rattle.question.specs.Permitted.{ruled}
use Rattle.finder_plain.specs.Tries.{may_do, by_post}
use Rattle.finder_plain.proofs.MayLaws.{at-number, someone_told}
use Rattle.finder_plain.proofs.asked.Asked.someone_may.Goals as goal

pub returns : goal.returns
returns c =
    let a = c.args in
    let asked = λ (b : Act). offered a.self.now.n a.self.now.question.team b && given (ruled a.self.now.n a.self.now.book.now a.self.now.question.held (digit_in c.from_number-state.result.digits) b) in
    someone_told asked (may_do a.self.now.n a.self.now.book.now a.self.now.question.team a.self.now.question.held a.k) (λ b. at-number a.self.now.n a.self.now.book.now a.self.now.question.team a.self.now.question.held a.k b c.requires.1 c.from_number-state.ensures refl) a.act c.any.result
    (cases_from_any _ _ _ (λ q. asked (by_post a.act q) ≡ true) (λ q. asked (by_post a.act q) ≡ false) c.any.ensures.ran
    (YieldsList-from_range 0 8 8 refl (omega arith)) (λ x q k. search (rules, tests)) (λ x q k. search (rules, tests)))
