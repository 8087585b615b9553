-- `knowledge_judging::judging::walk` meets its contract. The loop's invariant: the table has the value with every part of the unknown settings below `some`.
-- The measure is what is left below 128, since each turn goes up.
use mathlib.Core.Path.{sym, ◌∙◌, subst}
use native.Mathlib.Omega.{arith}
use lib.ListN.{drop}
use Rattle.knowledge_judging.proofs.WalkLaws.{WalkedTo, walked_not, walked_all, walked_on, walked_up}
use Rattle.knowledge_judging.proofs.judging.walk.Goals as goal

pub returns-then-some-eq0 : goal.returns-then-some-eq0
returns-then-some-eq0 c =
    let a = c.args in
    walked_all a.value (drop a.from a.bytes.now) a.unknown a.values c.requires c.loop-side.invariant
    (sym c.has_value.ensures ∙ c.loop-side-test.true) (sym c.next-some.ensures ∙ c.if-some-eq0.true)

pub loop-side-smaller : goal.loop-side-smaller
loop-side-smaller c =
    let a = c.args in
    let up = walked_up a.value (drop a.from a.bytes.now) a.unknown a.values c.requires c.loop-side.invariant
    (sym c.has_value.ensures ∙ c.loop-side-test.true) (λ e. c.if-some-eq0.false (c.next-some.ensures ∙ e)) in
    omega (arith, up, c.next-some.ensures, c.loop-side.invariant.small)

pub loop-side-preserved : goal.loop-side-preserved
loop-side-preserved c =
    let a = c.args in
    subst (WalkedTo a.value (drop a.from a.bytes.now) a.unknown a.values) (sym c.next-some.ensures)
    (walked_on a.value (drop a.from a.bytes.now) a.unknown a.values c.requires c.loop-side.invariant
    (sym c.has_value.ensures ∙ c.loop-side-test.true) (λ e. c.if-some-eq0.false (c.next-some.ensures ∙ e)))

pub returns : goal.returns
returns c =
    walked_not c.args.value (drop c.args.from c.args.bytes.now) c.args.unknown c.args.values c.requires c.loop-side.invariant
    (sym c.has_value.ensures ∙ c.loop-side-test.false)
