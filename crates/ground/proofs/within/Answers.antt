-- `within` meets its contract: the loop has found no bit from 2^n up to v.
use mathlib.Core.Path.{sym, ◌∙◌}
use native.Mathlib.Omega.{arith}
use lib.Pow.{pow_mono}
use lib.ListN.{drop}
use Rattle.ground.proofs.Table.{within_more, not_within, within_all, within_seven}
use Rattle.ground.proofs.within.Goals as goal

pub returns-then-n-ge-SETTINGS_MOST : goal.returns-then-n-ge-SETTINGS_MOST
returns-then-n-ge-SETTINGS_MOST c =
    let args = c.args in
    within_seven args.n (drop args.from args.bytes.now) c.if-n-ge-SETTINGS_MOST.true

pub loop-v-init : goal.loop-v-init
loop-v-init c = λ u l h. absurd (omega (arith, pow_mono {i = c.args.n} {j = 6} (omega arith)))

pub returns-then-truth_at : goal.returns-then-truth_at
returns-then-truth_at c =
    not_within c.args.n (drop c.args.from c.args.bytes.now) c.loop-v.v (omega (arith, c.loop-v.auto.v, pow_mono {i = c.args.n} {j = 6} (omega arith))) c.loop-v-test.true
    (sym c.truth_at.ensures ∙ c.if-truth_at.true)

pub loop-v-preserved : goal.loop-v-preserved
loop-v-preserved c =
    within_more c.args.n (drop c.args.from c.args.bytes.now) c.loop-v.v c.loop-v.invariant
    (sym c.truth_at.ensures ∙ c.if-truth_at.false)

pub returns : goal.returns
returns c =
    let args = c.args in
    within_all args.n (drop args.from args.bytes.now) (λ u l h. c.loop-v.invariant u l (omega arith))
