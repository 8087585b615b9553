-- `Truths::within` meets its contract: the masks by a computed test over their entries.
use native.Mathlib.Omega.{arith}
use Rattle.formula_table.proofs.TwoWords.{within_low, within_six, within_seven, masks}
use Rattle.formula_table.proofs.Truths.within.Goals as goal

pub returns-then-n-ge-SETTINGS_MOST : goal.returns-then-n-ge-SETTINGS_MOST
returns-then-n-ge-SETTINGS_MOST c = within_seven c.args.self c.args.n c.if-n-ge-SETTINGS_MOST.true

pub returns-then-n-eq6 : goal.returns-then-n-eq6
returns-then-n-eq6 c =
    let args = c.args in
    within_six args.self args.n c.if-n-eq6.true

pub returns : goal.returns
unfolding masks
returns c =
    let args = c.args in
    within_low args.self args.n (omega (arith, c.if-n-ge-SETTINGS_MOST.false, c.if-n-eq6.false))
