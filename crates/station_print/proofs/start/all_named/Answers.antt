-- `all_named` meets its contract: std's `all` over the numbers below n.
use Rattle.std.proofs.Common.{◌≡◌, true, false, refl, arith, rules}
use borrow.Author.Tests.{tests}
use Rattle.std.proofs.lemmas.Iterator.{YieldsList-from_range, cases_from_all}
use Rattle.ground.specs.Digits.{bit}
use Rattle.station_print.proofs.StartLaws.{all-found}
use Rattle.station_print.proofs.start.all_named.Goals as goal

pub returns : goal.returns
returns c =
    let a = c.args in
    all-found (bit a.named) a.n c.all.result
    (cases_from_all _ _ _ (λ i. bit a.named i ≡ true) (λ i. bit a.named i ≡ false) c.all.ensures.ran (YieldsList-from_range 0 a.n a.n refl (omega arith))
    (λ x q k. search (rules, tests)) (λ x q k. search (rules, tests)))
