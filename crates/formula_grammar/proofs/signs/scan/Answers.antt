-- `scan` meets its contract. The loop has found no foreign byte among the first i.
use mathlib.Core.Path.{sym, ◌∙◌}
use native.Mathlib.Omega.{arith}
use Rattle.formula_grammar.proofs.ScanLaws.{stray_first, past_first, clean-more}
use Rattle.formula_grammar.proofs.signs.scan.Goals as goal

pub returns-then-is_stray : goal.returns-then-is_stray
returns-then-is_stray c =
    stray_first c.args.n c.args.text.now c.loop-i.i c.loop-i-test.true c.loop-i.invariant (sym c.is_stray.ensures ∙ c.if-is_stray.true)

pub returns-then-is_past : goal.returns-then-is_past
returns-then-is_past c =
    past_first c.args.n c.args.text.now c.loop-i.i c.loop-i-test.true c.loop-i.invariant (sym c.is_past.ensures ∙ c.if-is_past.true)

pub loop-i-preserved : goal.loop-i-preserved
loop-i-preserved c =
    clean-more c.args.n c.args.text.now c.loop-i.i c.loop-i.invariant
    (sym c.is_stray.ensures ∙ c.if-is_stray.false) (sym c.is_past.ensures ∙ c.if-is_past.false)

pub returns : goal.returns
returns c = λ j x. c.loop-i.invariant j (omega (arith, x.0)) x
