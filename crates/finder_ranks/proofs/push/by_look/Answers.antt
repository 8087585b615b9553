-- `finder_ranks::push::by_look` meets its contract: digits 3 and 6 are the outcomes of a look, and no others are.
use lib.Dec.{lit<}
use native.Mathlib.Omega.{arith}
use Rattle.finder_ranks.proofs.AtSpots.{beside_false, beside_true}
use Rattle.finder_ranks.proofs.Pushes.{looks-none}
use Rattle.finder_ranks.proofs.push.by_look.Goals as goal

pub beside-requires : goal.beside-requires
beside-requires c =
    let args = c.args in
    let pre = c.requires in
    (pre.0, pre.1, lit< tt, beside_false args.k args.i args.d pre.2 c.in-3.is)

pub beside-requires-in-6 : goal.beside-requires-in-6
beside-requires-in-6 c =
    let args = c.args in
    let pre = c.requires in
    (pre.0, pre.1, lit< tt, beside_true args.k args.i args.d pre.2 c.in-6.is)

pub returns-in_default : goal.returns-in_default
returns-in_default c =
    let pre = c.requires in
    looks-none pre.0.state pre.0.setting (λ e. omega (arith, e)) (λ e. omega (arith, e))
