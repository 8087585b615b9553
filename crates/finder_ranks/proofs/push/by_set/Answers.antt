-- `finder_ranks::push::by_set` meets its contract: the digits that lead to d were all tried, one after the other, but d itself, which is k's.
use lib.Dec.{lit<}
use mathlib.Core.Path.{sym, ◌∙◌}
use mathlib.Core.List.{[]}
use Rattle.knowledge_acts.proofs.Seven.{set_lt}
use Rattle.finder_ranks.specs.Push.{other}
use Rattle.finder_ranks.proofs.AtSpots.{is_digit, lead_other, lead_none}
use Rattle.finder_ranks.proofs.Pushes.{pushing_on, sets-none, sets-one, sets-two}
use Rattle.finder_ranks.proofs.push.by_set.Goals as goal

pub returns-then-d-eq0 : goal.returns-then-d-eq0
returns-then-d-eq0 c =
    let pre = c.requires in
    sets-none pre.0.state pre.0.setting (sym pre.2 ∙ c.if-d-eq0.true)

pub other_of-other-requires : goal.other_of-other-requires
other_of-other-requires c = let args = c.args in is_digit args.k args.i args.d c.requires.2

pub from_digit-requires : goal.from_digit-requires
unfolding other
from_digit-requires c =
    let args = c.args in
    let pre = c.requires in
    let looked-up = c.other_of-other.ensures in (
      pre.0,
      pre.1,
      rw looked-up (set_lt _ _ (is_digit args.k args.i args.d pre.2)),
      rw looked-up (lead_other args.k args.i args.d pre.2 c.if-d-eq0.false),
    )

pub from_digit-requires-then-d-lt3 : goal.from_digit-requires-then-d-lt3
from_digit-requires-then-d-lt3 c =
    let args = c.args in
    let pre = c.requires in (
      pre.0,
      pushing_on pre.1 (c.from_digit.ensures.grew []),
      lit< tt,
      lead_none args.k args.i args.d pre.2 c.if-d-eq0.false c.if-d-lt3.true,
    )

pub returns-then-d-lt3 : goal.returns-then-d-lt3
returns-then-d-lt3 c =
    let pre = c.requires in
    sets-two pre.0.state pre.0.setting c.args.d c.other_of-other.ensures pre.2 pre.1
    c.from_digit.ensures c.from_digit-then-d-lt3.ensures

pub returns-else-d-lt3 : goal.returns-else-d-lt3
returns-else-d-lt3 c =
    let pre = c.requires in
    sets-one pre.0.state pre.0.setting c.args.d c.other_of-other.ensures pre.2 pre.1 c.if-d-lt3.false c.from_digit.ensures
