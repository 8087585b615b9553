-- `finder_ranks::round::block` meets its contract: a bare block has nothing to visit.
use native.Mathlib.Omega.{arith}
use Prim.Native.Nat.{◌-◌}
use Rattle.finder_ranks.proofs.Sweeps.{bare_part, swept_bare}
use Rattle.finder_ranks.proofs.round.block.Goals as goal

pub returns-then-not-contains : goal.returns-then-not-contains
returns-then-not-contains c =
    let args = c.args in
    let pre = c.requires in
    swept_bare pre.1 pre.0.low
    (bare_part (args.h - 1) args.at args.end args.ranks.now pre.1 (omega (arith, pre.0.room)) c.if-not-contains.ensures.cases)
