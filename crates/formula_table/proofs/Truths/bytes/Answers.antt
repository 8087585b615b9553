-- `Truths::bytes` meets its contract. The loop has stored the first j bytes.
use mathlib.Core.Path.{refl, ◌∙◌}
use lib.ListN.{length-set}
use native.Mathlib.Omega.{arith}
use Rattle.formula_table.proofs.TwoWords.{stored}
use Rattle.formula_table.proofs.Truths.bytes.Goals as goal

pub loop-j-init : goal.loop-j-init
loop-j-init c = (refl, λ k h. absurd (omega arith))

pub loop-j-preserved : goal.loop-j-preserved
loop-j-preserved c =
    let loop = c.loop-j in (
      length-set loop.table loop.j c.byte.result ∙ loop.invariant.0,
      stored c.args.self loop.table loop.j c.byte.result loop.invariant.0 c.loop-j-test.true
          loop.invariant.1 c.byte.ensures,
    )

pub returns : goal.returns
returns c = record { sixteen = c.loop-j.invariant.0; each = λ j h. c.loop-j.invariant.1 j (omega arith) }
