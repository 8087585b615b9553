-- `knowledge_judging::masks::masks_of` meets its contract. The loop's invariant: the first i settings are in the masks.
use native.Mathlib.Omega.{arith}
use Rattle.knowledge.specs.Number.{digit_in}
use Rattle.knowledge_judging.proofs.MaskLaws.{masks_turn, one_bit, side_three}
use Rattle.knowledge_judging.proofs.masks.masks_of.Goals as goal

pub loop-i-preserved : goal.loop-i-preserved
loop-i-preserved c =
    masks_turn c.loop-i.invariant (side_three c.args.side (digit_in c.args.state.digits) c.loop-i.i) c.told-told.ensures (one_bit (omega arith))
    c.bit_if-unknown.ensures.0 c.bit_if-values.ensures.0
