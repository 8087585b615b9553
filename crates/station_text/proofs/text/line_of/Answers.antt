-- `line_of` meets its contract: what is left to find in the rest is what is to be found in all.
use Rattle.std.proofs.Common.{arith, sym, ◌∙◌}
use native.Mathlib.Numerals.{add-one}
use Rattle.station_text.proofs.TextLaws.{of_last, of_here, of_later}
use Rattle.station_text.proofs.text.line_of.Goals as goal

pub returns-then-left-here : goal.returns-then-left-here
returns-then-left-here c =
    let l = c.loop-line in
    sym (of_here l.rest.now c.in-Some.line.now c.in-Some.after.now c.in-Some.ensures l.number l.left (rw c.records_in-here.ensures at c.if-left-here.true))
    ∙ l.invariant.1

pub loop-line-preserved : goal.loop-line-preserved
loop-line-preserved c =
    let l = c.loop-line in (
      omega (arith, c.in-Some.ensures.lengths, l.invariant.0),
      rw (add-one, c.records_in-here.ensures)
          (sym (of_later l.rest.now c.in-Some.line.now c.in-Some.after.now c.in-Some.ensures l.number l.left (rw c.records_in-here.ensures at c.if-left-here.false))
          ∙ l.invariant.1),
    )

pub returns : goal.returns
returns c =
    let l = c.loop-line in
    sym (of_last l.rest.now c.in_default.ensures l.number l.left) ∙ l.invariant.1
