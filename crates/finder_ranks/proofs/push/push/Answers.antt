-- `finder_ranks::push::push` meets its contract: sets first, then looks.
use Rattle.finder_ranks.proofs.Pushes.{pushing_on, along}
use mathlib.Core.List.{[]}
use Rattle.finder_ranks.proofs.push.push.Goals as goal

pub by_look-requires : goal.by_look-requires
by_look-requires c =
    let pre = c.requires in
    (c.spot_of-spot.ensures, pushing_on pre.0 (c.by_set.ensures.grew []), pre.5)

pub returns : goal.returns
returns c =
    let pre = c.requires in
    along pre.2 pre.4 pre.0.high c.by_set.ensures c.by_look.ensures
