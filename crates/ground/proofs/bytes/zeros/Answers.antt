-- `zeros` meets its contract: what fits of the run is as good as all of it.
use mathlib.Core.Path.{◌≡◌, ap, sym, ◌∙◌}
use Prim.Native.Nat.{ℕ}
use native.Mathlib.Omega.{arith}
use lib.ListN.{replicate, length-replicate}
use lib.Seq.{sets}
use Rattle.ground.proofs.Lists.{zeros_clipped, put_sets, length_part_there}
use Rattle.ground.proofs.bytes.zeros.Goals as goal
use Rattle.ground.proofs.bytes.zeros.Goals.{After-part_of-fits}

-- the zeros that fit, written alone
fitting : (c : After-part_of-fits) → sets c.args.room.now c.args.to (replicate c.part_of-fits.result 0) ≡ sets c.args.room.now c.args.to (replicate c.args.count 0)
fitting c =
    let a = c.args in
    ap (λ (k : ℕ). sets a.room.now a.to (replicate {A = ℕ} k 0)) c.part_of-fits.ensures
    ∙ zeros_clipped a.room.now a.count a.to

pub returns-then-fits-ne0 : goal.returns-then-fits-ne0
returns-then-fits-ne0 c =
    let a = c.args in
    let fits = c.part_of-fits.ensures in
    put_sets a.to _ a.room.now _ (replicate c.part_of-fits.result 0)
    (c.fill.ensures.after (λ y e. e)
    ∙ ap (λ (k : ℕ). replicate {A = ℕ} k 0) (length_part_there a.room.now a.to _ (omega (arith, fits)) ∙ omega arith))
    (length-replicate _ 0 ∙ omega arith)
    (omega (arith, fits, c.if-fits-ne0.true))
    ∙ fitting (goal.at.returns-then-fits-ne0 c).After-part_of-fits

pub returns-else-fits-ne0 : goal.returns-else-fits-ne0
returns-else-fits-ne0 c =
    let a = c.args in
    sym (ap (λ (k : ℕ). sets a.room.now a.to (replicate {A = ℕ} k 0)) c.if-fits-ne0.false)
    ∙ fitting (goal.at.returns-else-fits-ne0 c).After-part_of-fits
