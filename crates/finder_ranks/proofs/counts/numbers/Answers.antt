-- `finder_ranks::counts::numbers` meets its contract: the power is small.
use native.Mathlib.Nat.{min-le_right}
use native.Mathlib.Omega.{arith}
use Rattle.finder_sides.proofs.CountLaws.{states_most}
use Rattle.finder_ranks.proofs.counts.numbers.Goals as goal

pub pow-requires : goal.pow-requires
pow-requires c = omega (arith, states_most c.up_to_seven.result (rw c.up_to_seven.ensures (min-le_right _ 7)))
