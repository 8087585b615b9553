-- `finder_sides::filled::fill` meets its contract. The loop has filled the entries from the side up.
use Prim.Native.Nat.{◌-◌}
use native.Mathlib.Omega.{arith}
use Rattle.finder_sides.proofs.CountLaws.{sides-most}
use Rattle.finder_sides.proofs.FillLaws.{filled_more, past_more, zeros_long, zeros_at}
use lib.ListN.{length-set}
use mathlib.Core.Path.{◌∙◌}
use Rattle.finder_sides.proofs.filled.fill.Goals as goal

pub loop-side-init : goal.loop-side-init
loop-side-init c = (omega (arith, c.sides-side.ensures), zeros_long 2187, λ s h l. absurd (omega (arith, c.sides-side.ensures)), λ s h. zeros_at 2187 s)

pub bounds-table-side : goal.bounds-table-side
bounds-table-side c = omega (arith, sides-most c.args.n c.requires)

pub loop-side-preserved : goal.loop-side-preserved
loop-side-preserved c =
    let loop = c.loop-side in
    let args = c.args in (
      omega arith,
      length-set loop.table (loop.side - 1) c.entry_of.result ∙ loop.invariant.1,
      filled_more loop.table (omega arith) (omega (arith, sides-most args.n c.requires, loop.invariant.1))
          loop.invariant.2 c.entry_of.ensures,
      past_more args.n loop.table c.entry_of.result (omega arith) loop.invariant.3,
    )
