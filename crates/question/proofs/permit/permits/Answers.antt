-- `question::permit::permits` meets its contract: by the kind of act; of a set first by the mask of held settings and last by what its digit tells, of a
-- look first by the digit.
use mathlib.Core.Path.{sym, ◌∙◌}
use Rattle.knowledge.specs.Number.{digit_in}
use Rattle.question.proofs.PermitLaws.{set_says, set_of_held, look_says, look_at-known}
use Rattle.question.proofs.permit.permits.Goals as goal

pub returns-then-bit_of : goal.returns-then-bit_of
returns-then-bit_of c =
    let a = c.args in
    rw c.in-Set.is
    (set_of_held c.if-n-gt-MOST.false a.book.now a.held (digit_in a.state.digits) c.in-Set.setting c.in-Set.post c.in-Set.value
    (sym c.bit_of.ensures ∙ c.if-bit_of.true))

pub returns-then-digit-ne0 : goal.returns-then-digit-ne0
returns-then-digit-ne0 c =
    let a = c.args in
    rw c.in-Look.is
    (look_at-known c.if-n-gt-MOST.false a.book.now a.held (digit_in a.state.digits) c.in-Look.setting c.in-Look.post
    (λ e. c.if-digit-ne0.true (c.digit-in-Look.ensures ∙ e)))

pub returns-else-bit_of : goal.returns-else-bit_of
returns-else-bit_of c =
    let a = c.args in
    rw c.in-Set.is
    (set_says c.if-n-gt-MOST.false a.book.now a.held (digit_in a.state.digits) c.in-Set.setting c.in-Set.post c.in-Set.value
    (sym c.bit_of.ensures ∙ c.if-bit_of.false) c.by_rule.ensures c.digit.ensures c.unless_told.ensures)

pub returns-else-digit-ne0 : goal.returns-else-digit-ne0
returns-else-digit-ne0 c =
    let a = c.args in
    rw c.in-Look.is
    (look_says c.if-n-gt-MOST.false a.book.now a.held (digit_in a.state.digits) c.in-Look.setting c.in-Look.post
    (sym c.digit-in-Look.ensures ∙ c.if-digit-ne0.false) c.by_rule-in-Look.ensures)
