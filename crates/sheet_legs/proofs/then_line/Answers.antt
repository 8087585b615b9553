-- `then_line` meets its contract: no line before what is left is `then`, and the text before it is those lines.
use Rattle.std.proofs.Common.{◌≡◌, ◌∙◌, ◌+◌, ◌++◌, [], ◌∷◌, length, sym, arith}
use lib.ListN.{length-append}
use Rattle.sheet_legs.proofs.CutLaws.{before-none, before-count, before_more, cut_ends, cut_here, then_size}
use Rattle.sheet_legs.proofs.then_line.Goals as goal

pub loop-line-init : goal.loop-line-init
loop-line-init c = record { shorter = omega arith; counted = omega arith; before = ([], omega arith, before-none c.args.text.now) }

pub returns-then-is_then : goal.returns-then-is_then
returns-then-is_then c =
    let l = c.loop-line in
    let b = l.invariant.before.2 in
    let is = sym c.is_then.ensures ∙ c.if-is_then.true in
    let cut : length l.rest.now ≡ length c.in-Some.line.now + 1 + length c.in-Some.after.now = c.in-Some.ensures.lengths in (
      omega (arith, l.invariant.shorter, then_size c.in-Some.line.now is),
      cut_here b c.in-Some.ensures is,
      before-count b ∙ l.invariant.before.1,
      omega (arith, l.invariant.counted, c.requires),
    )

pub loop-line-preserved : goal.loop-line-preserved
loop-line-preserved c =
    let l = c.loop-line in
    let line = c.in-Some.line.now in
    let lines = l.invariant.before.0 in
    let cut : length l.rest.now ≡ length line + 1 + length c.in-Some.after.now = c.in-Some.ensures.lengths in
    record {
      shorter = omega (arith, l.invariant.shorter);
      counted = omega (arith, l.invariant.counted);
      before = (
        lines ++ (line ∷ []),
        omega (arith, length-append lines (line ∷ []), l.invariant.before.1),
        before_more l.invariant.before.2 c.in-Some.ensures (sym c.is_then.ensures ∙ c.if-is_then.false),
      );
    }

pub returns : goal.returns
returns c = cut_ends c.loop-line.invariant.before.2 c.in_default.ensures
