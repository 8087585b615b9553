-- `known_fits` meets its contract: by the bits of the two masks.
use native.Mathlib.Omega.{arith}
use borrow.Author.Tests.{ne_eqb}
use Rattle.question.proofs.QuestionLaws.{known_past, known_tells}
use Rattle.question.proofs.known_fits.Goals as goal

pub returns-then-known-n-eq0 : goal.returns-then-known-n-eq0
returns-then-known-n-eq0 c =
    known_tells c.args.n c.args.known c.args.values
    (omega (arith, c.ranges.known)) (omega (arith, c.ranges.values)) c.if-known-n-eq0.true

pub returns-else-known-n-eq0 : goal.returns-else-known-n-eq0
returns-else-known-n-eq0 c =
    rw (ne_eqb _ 0 c.if-known-n-eq0.false) (known_past c.args.n c.args.known c.args.values (omega (arith, c.ranges.known)) c.if-known-n-eq0.false)
