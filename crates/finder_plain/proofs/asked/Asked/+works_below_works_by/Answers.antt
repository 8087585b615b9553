-- `works_below` and `works_by` meet their contracts: a search from a state asks each of its tries, and a try searches from its outcomes at the height
-- before. The measures are 2 × h and 2 × h + 1.
use Prim.Native.Nat.{ℕ}
use mathlib.Core.Path.{ap, ◌∙◌}
use Rattle.std.proofs.Common.{Some, None}
use native.Mathlib.Omega.{arith}
use Rattle.finder_plain.specs.declared.ahead.Ahead.TheVariants.{One, Two}
use Rattle.finder_plain.proofs.SearchLaws.{in_system, asks, asks-goal, goal_yes, goal_no, entry-there, from_first, from_second, second-says, one-says}
use Rattle.finder_plain.proofs.SearchLaws.{nothing_says, at-goal, none_left}
use Rattle.finder_plain.proofs.asked.Asked.+works_below_works_by.Goals as goal
use Rattle.finder_plain.proofs.asked.Asked.+works_below_works_by.Goals.{works_by-In-One, works_by-In-Two}
use Rattle.plan.specs.Plans.{may}
use Rattle.finder_plain.specs.Asked.{asked_system}
use Rattle.finder_plain.specs.Tries.{Opens}

-- the outcomes that were foreseen lie ahead in the system
one : (t : ℕ) (c : works_by-In-One t)
    → Opens (may (asked_system c.args.self.now) c.args.k) c.args.k c.args.act c.in-One.x c.in-One.x
one t c =
    let a = c.args in
    in_system a.self.now a.k a.entries.now a.act a.h (Some (One c.in-One.x)) (c.in-Some.is ∙ ap Some c.in-One.is)
    c.foresee.ensures

two : (t : ℕ) (c : works_by-In-Two t)
    → Opens (may (asked_system c.args.self.now) c.args.k) c.args.k c.args.act c.in-Two.no c.in-Two.yes
two t c =
    let a = c.args in
    in_system a.self.now a.k a.entries.now a.act a.h (Some (Two c.in-Two.no c.in-Two.yes)) (c.in-Some.is ∙ ap Some c.in-Two.is)
    c.foresee.ensures

pub works_below-bounds-entries-k : goal.works_below-bounds-entries-k
works_below-bounds-entries-k t c = entry-there c.requires

pub works_below-settled-requires : goal.works_below-settled-requires
works_below-settled-requires t c =
    let a = c.args in
    asks-goal a.self.now a.k c.requires

pub works_below-returns-then-settled : goal.works_below-returns-then-settled
works_below-returns-then-settled t c =
    let a = c.args in
    at-goal c.requires (omega arith) (goal_yes a.self.now a.k c.settled.ensures c.if-settled.true)

pub works_below-raise-requires : goal.works_below-raise-requires
works_below-raise-requires t c = entry-there c.requires

pub works_below-returns : goal.works_below-returns
works_below-returns t c =
    let a = c.args in
    none_left c.requires c.loop-number.invariant (omega (arith, c.loop-number-test.false))
    (goal_no a.self.now a.k c.settled.ensures c.if-settled.false) (omega arith) c.raise.ensures

pub works_by-foresee-requires : goal.works_by-foresee-requires
works_by-foresee-requires t c =
    let a = c.args in
    asks a.self.now a.k c.requires.0 c.requires.1

pub works_by-returns-in_default : goal.works_by-returns-in_default
works_by-returns-in_default t c =
    let a = c.args in
    nothing_says c.requires.0 (in_system a.self.now a.k a.entries.now a.act a.h None c.in_default.is c.foresee.ensures)

pub works_by-works_below-requires : goal.works_by-works_below-requires
works_by-works_below-requires t c =
    let s = c.requires.0 in
    (omega (arith, c.decreases), from_first s (one t (goal.at.works_by-works_below-requires t c).In-One) s.bars)

pub works_by-returns-in-One : goal.works_by-returns-in-One
works_by-returns-in-One t c = one-says c.requires.0 (one t (goal.at.works_by-returns-in-One t c).In-One) c.works_below.ensures

pub works_by-works_below-requires-in-Two : goal.works_by-works_below-requires-in-Two
works_by-works_below-requires-in-Two t c =
    let s = c.requires.0 in
    (omega (arith, c.decreases), from_first s (two t (goal.at.works_by-works_below-requires-in-Two t c).In-Two) s.bars)

pub works_by-works_below-requires-then-works_below : goal.works_by-works_below-requires-then-works_below
works_by-works_below-requires-then-works_below t c = (
  omega (arith, c.decreases),
  from_second c.requires.0 (two t (goal.at.works_by-works_below-requires-then-works_below t c).In-Two) c.works_below-in-Two.ensures.bars,
)

pub works_by-returns-then-works_below : goal.works_by-returns-then-works_below
works_by-returns-then-works_below t c =
    second-says c.requires.0 (two t (goal.at.works_by-returns-then-works_below t c).In-Two) c.works_below-in-Two.ensures c.if-works_below.true c.works_below-then-works_below.ensures
