-- `answer` hands out no byte that is not there: every answer fits its room.
use mathlib.Core.Path.{sym}
use native.Mathlib.Omega.{arith}
use lib.Seq.{length-take-le}
use Rattle.sheet.proofs.Theorems.{answer-most}
use Rattle.parjolenc.proofs.answer.Goals as goal

pub slice_bounds-out-end : goal.slice_bounds-out-end
slice_bounds-out-end c = omega (arith, answer-most _ _ _ _ c.answer-printed.ensures, c.answer-printed.auto.out)

pub slice_bounds-deliver-end : goal.slice_bounds-deliver-end
slice_bounds-deliver-end c = sym (length-take-le _ _ (omega (arith, answer-most _ _ _ _ c.answer-printed.ensures, c.answer-printed.auto.out)))
