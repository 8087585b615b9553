-- `finder_sides::counts::sides` meets its contract: the power is small.
use native.Mathlib.Omega.{arith}
use Rattle.finder_sides.proofs.CountLaws.{sides-most}
use Rattle.finder_sides.proofs.counts.sides.Goals as goal

pub pow-requires : goal.pow-requires
pow-requires c = omega (arith, sides-most c.args.n c.requires)
