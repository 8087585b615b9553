-- `knowledge_judging::masks::masks_of` meets its contract. The loop's invariant: the first i settings are in the masks.
use Rattle.knowledge.specs.Number.{digit_in}
use Rattle.knowledge_judging.specs.Sides.{told_of}
use Rattle.knowledge_judging.proofs.MaskLaws.{MasksTo}
use Rattle.knowledge_judging.proofs.masks.masks_of.Given as goal

abbrev pub invariant-loop-i : goal.invariant-loop-i
invariant-loop-i l = MasksTo (told_of l.side (digit_in l.state.digits)) l.i l.unknown l.values
