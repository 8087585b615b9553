-- `salvage` hands on no byte that is not there: a salvaged book fits its room.
use mathlib.Core.Path.{sym}
use native.Mathlib.Omega.{arith}
use lib.Seq.{length-take-le}
use Rattle.program_salvage.proofs.salvage.Goals as goal

pub slice_bounds-make-end : goal.slice_bounds-make-end
slice_bounds-make-end c = sym (length-take-le _ _ (omega (arith, c.in-Ok.ensures.fits, c.salvage.auto.room)))
