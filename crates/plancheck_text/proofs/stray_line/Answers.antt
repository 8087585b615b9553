-- `stray_line` meets its contract: the lines so far are plan lines, so the first stray line is the first of the rest.
use Rattle.std.proofs.Common.{arith, sym, ◌∙◌}
use native.Mathlib.Numerals.{add-one}
use Rattle.plancheck_text.proofs.TextLaws.{stray_turn, stray-last, rest_some, rest-none}
use Rattle.plancheck_text.proofs.stray_line.Goals as goal

pub returns-then-not-is_plan_line : goal.returns-then-not-is_plan_line
returns-then-not-is_plan_line c =
    let l = c.loop-line in
    sym (stray_turn l.rest.now c.in-Some.line.now c.in-Some.after.now c.in-Some.ensures l.number (sym c.is_plan_line.ensures ∙ c.if-not-is_plan_line.true))
    ∙ l.invariant.1

pub loop-line-preserved : goal.loop-line-preserved
loop-line-preserved c =
    let l = c.loop-line in (
      omega (arith, c.in-Some.ensures.lengths, l.invariant.0),
      rw add-one
          (sym (stray_turn l.rest.now c.in-Some.line.now c.in-Some.after.now c.in-Some.ensures l.number (sym c.is_plan_line.ensures ∙ c.if-not-is_plan_line.false))
          ∙ l.invariant.1),
    )

pub returns-then-is_empty : goal.returns-then-is_empty
returns-then-is_empty c =
    let l = c.loop-line in
    rest-none l.number l.rest.now (sym c.is_empty.ensures ∙ c.if-is_empty.true) ∙ sym (stray-last l.rest.now c.in_default.ensures l.number) ∙ l.invariant.1

pub returns-else-is_empty : goal.returns-else-is_empty
returns-else-is_empty c =
    let l = c.loop-line in
    rest_some l.number l.rest.now (sym c.is_empty.ensures ∙ c.if-is_empty.false) ∙ sym (stray-last l.rest.now c.in_default.ensures l.number) ∙ l.invariant.1
