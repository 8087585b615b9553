-- `numbers` meets its contract: the power is small.
use native.Mathlib.Nat.{pow-le-pow_right}
use native.Mathlib.Omega.{arith}
use lib.Dec.{lit<}
use Rattle.finder_plain.proofs.gap.numbers.Goals as goal

pub pow-requires : goal.pow-requires
pow-requires c = omega (arith, pow-le-pow_right {n = 7} (lit< tt) {i = c.args.n} {j = 7} c.requires)
