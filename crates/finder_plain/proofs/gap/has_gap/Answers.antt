-- `has_gap` meets its contract: a value that is not marked is at no state.
use native.Mathlib.Nat.{pow-le-pow_right}
use native.Mathlib.Omega.{arith}
use lib.Dec.{lit<}
use Rattle.finder_plain.proofs.GapLaws.{gap_found}
use Rattle.finder_plain.proofs.gap.has_gap.Goals as goal

pub seen-found-requires : goal.seen-found-requires
seen-found-requires c =
    (c.requires.0, omega (arith, c.numbers.ensures, pow-le-pow_right {n = 7} (lit< tt) {i = c.args.n} {j = 7} c.requires.1))

pub returns : goal.returns
returns c = gap_found c.seen-found.ensures c.numbers.ensures (omega (arith, c.ranges.top.fits)) c.contains.ensures.cases
