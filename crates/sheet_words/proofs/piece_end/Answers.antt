-- `piece_end` meets its contract: the piece that begins at i ends where the one that begins at `at` does.
use mathlib.Core.Path.{refl, sym, ◌∙◌}
use native.Mathlib.Numerals.{add-one}
use native.Mathlib.Omega.{arith}
use Rattle.sheet_words.proofs.Pieces.{end_past, end_mark, end_other}
use Rattle.sheet_words.proofs.piece_end.Goals as goal

pub loop-i-init : goal.loop-i-init
loop-i-init c = refl

pub returns-then-text-i : goal.returns-then-text-i
returns-then-text-i c =
    let a = c.args in
    let r = c.loop-i in
    sym (end_mark a.text.now r.i a.mark c.loop-i-test.true c.if-text-i.true) ∙ r.invariant

pub loop-i-preserved : goal.loop-i-preserved
loop-i-preserved c =
    let a = c.args in
    let r = c.loop-i in
    rw add-one (sym (end_other a.text.now r.i a.mark c.loop-i-test.true c.if-text-i.false) ∙ r.invariant)

pub returns : goal.returns
returns c =
    let a = c.args in
    let r = c.loop-i in
    omega (arith, end_past a.text.now r.i a.mark c.loop-i-test.false, r.invariant, r.auto.i, c.if-text-at.false)

pub returns-then-text-at : goal.returns-then-text-at
returns-then-text-at c = sym (end_past c.args.text.now c.args.at c.args.mark c.if-text-at.true)
