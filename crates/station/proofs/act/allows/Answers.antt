-- `allows` meets its contract: the act's rule is read where it stands in the book.
use Rattle.std.proofs.Common.{◌∙◌}
use borrow.Author.Tests.{le-ltb}
use Rattle.station.proofs.ActLaws.{allowed-there, allowed-past}
use Rattle.station.proofs.act.allows.Goals as goal

pub returns-then-present-lt-VALUATIONS : goal.returns-then-present-lt-VALUATIONS
returns-then-present-lt-VALUATIONS c =
    let a = c.args in
    rw c.rule_of.ensures at c.finds.ensures
    ∙ allowed-there a.book.now a.present.0 a.act c.if-present-lt-VALUATIONS.true

pub returns-else-present-lt-VALUATIONS : goal.returns-else-present-lt-VALUATIONS
returns-else-present-lt-VALUATIONS c =
    let a = c.args in
    le-ltb _ _ c.if-present-lt-VALUATIONS.false ∙ allowed-past a.book.now a.present.0 a.act c.if-present-lt-VALUATIONS.false
