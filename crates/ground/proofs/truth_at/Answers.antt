-- `ground::truth_at` meets its contract: the bit is that of the byte where it is there, and of 0 past the end.
use mathlib.Core.Path.{sym, ◌∙◌}
use native.Mathlib.Omega.{arith}
use borrow.Author.Tests.{ltb-false}
use Rattle.ground.proofs.Table.{truth_in, truth_out}
use Rattle.ground.proofs.truth_at.Goals as goal
use Rattle.ground.proofs.truth_at.Goals.{then-from-bytes, else-from-bytes}

pub returns-then-step-bytes : goal.returns-then-step-bytes
returns-then-step-bytes c = truth_in c.args.bytes.now _ _

pub returns-else-step-bytes : goal.returns-else-step-bytes
returns-else-step-bytes c =
    c.if-step-bytes.false
    ∙ truth_out c.args.bytes.now c.args.from c.args.v
    (elim c.if-from-bytes.branch [
      | then-from-bytes w ↦ omega (arith, w.if-from-bytes.true, ltb-false _ _ (sym w.value-is ∙ c.if-step-bytes.false))
      | else-from-bytes w ↦ omega arith
    ])
