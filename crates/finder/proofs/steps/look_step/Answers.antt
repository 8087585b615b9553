-- `look_step` meets its contract: by the digit, the bit of the table and the three entries of the rank table.
use Prim.Native.Nat.{ℕ, ◌<◌, ◌≤◌}
use mathlib.Core.Path.{sym, ◌∙◌, subst}
use mathlib.Core.Bool.{false, true}
use lib.Dec.{T}
use lib.ListN.{get_or}
use native.Mathlib.Omega.{arith}
use Rattle.ground.specs.Digits.{bit}
use Rattle.ground.specs.Search.{Least}
use Rattle.knowledge_acts.proofs.Outcomes.{look_below}
use Rattle.finder_sides.proofs.Shown.{below-sides}
use Rattle.finder.proofs.StepLaws.{number_small, after_act, at_side, rank-at, digit_at, look_seen, look_nobody, look_no_lower, look_do}
use Rattle.finder.proofs.steps.look_step.Goals as goal

pub returns-then-digit-ne0 : goal.returns-then-digit-ne0
returns-then-digit-ne0 c =
    let args = c.args in
    let pre = c.requires in
    λ S t. look_seen t args.k args.i pre.4
    (λ z. c.if-digit-ne0.true
    ((digit_at args.k args.i (number_small args.n args.k pre.0 pre.1)
    c.from_number.ensures c.digit.ensures) ∙ z))

pub returns-then-posts-eq0 : goal.returns-then-posts-eq0
returns-then-posts-eq0 c =
    let args = c.args in
    let pre = c.requires in
    λ S t. look_nobody t args.k args.i pre.4 (sym (at_side args.look.now args.i pre.3) ∙ c.if-posts-eq0.true)

pub bounds-ranks-no : goal.bounds-ranks-no
bounds-ranks-no c =
    let args = c.args in
    let pre = c.requires in
    omega (arith, (after_act c.requires.0 c.requires.1 c.requires.4 c.look_at-no.ensures.number), look_below args.k args.i false args.n pre.1 pre.4, pre.2)

pub returns-then-rank-ranks : goal.returns-then-rank-ranks
returns-then-rank-ranks c =
    let args = c.args in
    λ S t. look_no_lower t args.k args.i c.requires.4 false
    (subst (λ (x : ℕ). get_or args.ranks.now args.k 0 ≤ x)
    (rank-at args.ranks.now (after_act c.requires.0 c.requires.1 c.requires.4 c.look_at-no.ensures.number)) c.if-rank-ranks.true)

pub bounds-ranks-yes : goal.bounds-ranks-yes
bounds-ranks-yes c =
    let args = c.args in
    let pre = c.requires in
    omega (arith, (after_act c.requires.0 c.requires.1 c.requires.4 c.look_at-yes.ensures.number), look_below args.k args.i true args.n pre.1 pre.4, pre.2)

pub returns-then-rank-ranks-2 : goal.returns-then-rank-ranks-2
returns-then-rank-ranks-2 c =
    let args = c.args in
    λ S t. look_no_lower t args.k args.i c.requires.4 true
    (subst (λ (x : ℕ). get_or args.ranks.now args.k 0 ≤ x)
    (rank-at args.ranks.now (after_act c.requires.0 c.requires.1 c.requires.4 c.look_at-yes.ensures.number)) c.if-rank-ranks-2.true)

pub returns : goal.returns
returns c =
    let args = c.args in
    let pre = c.requires in
    λ S t. look_do t args.k args.i pre.4 c.lowest.result c.lowest.ensures.1
    (sym (digit_at args.k args.i (number_small args.n args.k pre.0 pre.1)
    c.from_number.ensures c.digit.ensures) ∙ c.if-digit-ne0.false)
    (subst (λ (x : ℕ). Least (λ q. T (bit x q)) c.lowest.result) (at_side args.look.now args.i pre.3)
    c.lowest.ensures.0)
    (subst (λ (x : ℕ). x < get_or args.ranks.now args.k 0)
    (rank-at args.ranks.now (after_act c.requires.0 c.requires.1 c.requires.4 c.look_at-no.ensures.number)) c.if-rank-ranks.false)
    (subst (λ (x : ℕ). x < get_or args.ranks.now args.k 0)
    (rank-at args.ranks.now (after_act c.requires.0 c.requires.1 c.requires.4 c.look_at-yes.ensures.number)) c.if-rank-ranks-2.false)

pub bounds-look-side : goal.bounds-look-side
bounds-look-side c = omega (arith, c.requires.3, below-sides c.args.n c.args.k c.requires.0)
