-- `is_permitted` meets its contract: by the kind of act, of a set first by what is held, and of a look by the digit.
use mathlib.Core.Path.{sym, ◌∙◌}
use borrow.Author.Tests.{ne_eqb}
use Rattle.knowledge.specs.Number.{digit_in}
use Rattle.finder_plain.proofs.MayLaws.{set-permitted, set-held, look_permitted, look_barred}
use Rattle.finder_plain.proofs.asked.Asked.is_permitted.Goals as goal

pub returns-else-not-bit_of : goal.returns-else-not-bit_of
returns-else-not-bit_of c =
    let a = c.args in
    rw c.if-not-bit_of.false (set-held a.self.now.n a.self.now.book.now a.self.now.question.held (digit_in a.state.digits) c.in-Set.is (sym c.bit_of.ensures ∙ c.if-not-bit_of.false))

pub returns-else-digit-eq0 : goal.returns-else-digit-eq0
returns-else-digit-eq0 c =
    let a = c.args in
    rw (ne_eqb c.digit.result 0 c.if-digit-eq0.false)
    (look_barred a.self.now.n a.self.now.book.now a.self.now.question.held (digit_in a.state.digits) c.in-Look.is (λ e. c.if-digit-eq0.false (c.digit.ensures ∙ e)))

pub returns-then-not-bit_of : goal.returns-then-not-bit_of
returns-then-not-bit_of c =
    let a = c.args in
    set-permitted a.self.now.n a.self.now.book.now a.self.now.question.held (digit_in a.state.digits) c.in-Set.is (sym c.bit_of.ensures ∙ c.if-not-bit_of.true) c.holds.ensures

pub returns-then-digit-eq0 : goal.returns-then-digit-eq0
returns-then-digit-eq0 c =
    let a = c.args in
    look_permitted a.self.now.n a.self.now.book.now a.self.now.question.held (digit_in a.state.digits) c.in-Look.is (sym c.digit.ensures ∙ c.if-digit-eq0.true) c.holds-then-digit-eq0.ensures
