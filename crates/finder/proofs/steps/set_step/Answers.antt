-- `set_step` meets its contract: by the bit of the table and the two entries of the rank table.
use Prim.Native.Nat.{ℕ, ◌<◌, ◌≤◌}
use mathlib.Core.Path.{sym, ◌∙◌, subst}
use lib.Dec.{T}
use lib.ListN.{get_or}
use native.Mathlib.Omega.{arith}
use Rattle.ground.specs.Digits.{bit}
use Rattle.ground.specs.Search.{Least}
use Rattle.knowledge_acts.proofs.Outcomes.{set_below}
use Rattle.finder_sides.proofs.Shown.{below-sides}
use Rattle.finder.proofs.StepLaws.{after_act, at_side, rank-at, set-nobody, set_no_lower, set_do}
use Rattle.finder.proofs.steps.set_step.Goals as goal

pub returns-then-posts-eq0 : goal.returns-then-posts-eq0
returns-then-posts-eq0 c =
    let args = c.args in
    let pre = c.requires in
    λ S t. set-nobody t args.k args.i pre.4 args.value (sym (at_side args.set.now args.i pre.3) ∙ c.if-posts-eq0.true)

pub bounds-ranks-next : goal.bounds-ranks-next
bounds-ranks-next c =
    let args = c.args in
    let pre = c.requires in
    omega (arith, (after_act c.requires.0 c.requires.1 c.requires.4 c.set_to-next.ensures.number), set_below args.k args.i args.value args.n pre.1 pre.4, pre.2)

pub returns-then-ranks-next : goal.returns-then-ranks-next
returns-then-ranks-next c =
    let args = c.args in
    let pre = c.requires in
    λ S t. set_do t args.k args.i pre.4 args.value c.lowest.result c.lowest.ensures.1
    (subst (λ (x : ℕ). Least (λ q. T (bit x q)) c.lowest.result) (at_side args.set.now args.i pre.3)
    c.lowest.ensures.0)
    (subst (λ (x : ℕ). x < get_or args.ranks.now args.k 0)
    (rank-at args.ranks.now (after_act c.requires.0 c.requires.1 c.requires.4 c.set_to-next.ensures.number)) c.if-ranks-next.true)

pub returns : goal.returns
returns c =
    let args = c.args in
    λ S t. set_no_lower t args.k args.i c.requires.4 args.value
    (subst (λ (x : ℕ). get_or args.ranks.now args.k 0 ≤ x)
    (rank-at args.ranks.now (after_act c.requires.0 c.requires.1 c.requires.4 c.set_to-next.ensures.number)) c.if-ranks-next.false)

pub bounds-set-side : goal.bounds-set-side
bounds-set-side c = omega (arith, c.requires.3, below-sides c.args.n c.args.k c.requires.0)
