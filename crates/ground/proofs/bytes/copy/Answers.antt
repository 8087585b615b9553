-- `copy` meets its contract: what is there of the run and fits is as good as all of it.
use mathlib.Core.Path.{ap, ◌∙◌}
use native.Mathlib.Omega.{arith}
use Prim.Native.Nat.{ℕ, ◌-◌, min}
use lib.ListN.{length, take, drop}
use lib.Seq.{sets}
use Rattle.ground.proofs.Lists.{copy_clipped}
use Rattle.ground.proofs.bytes.copy.Goals as goal

pub copy_run-requires : goal.copy_run-requires
copy_run-requires c =
    let there = c.part_of-there.ensures in
    (omega (arith, c.part_of-fits.ensures, there), omega (arith, c.part_of-fits.ensures))

pub returns : goal.returns
returns c =
    let a = c.args in
    c.copy_run.ensures
    ∙ ap (λ (k : ℕ). sets a.room.now a.to (take k (drop a.from a.source.now)))
    (c.part_of-fits.ensures ∙ ap (λ (k : ℕ). min k (length a.room.now - a.to)) c.part_of-there.ensures)
    ∙ copy_clipped a.source.now a.room.now a.from a.count a.to
