-- `book_block::sums::sums_after` meets its contract: after i turns the sums are those after the first i bytes.
use Rattle.std.proofs.Common.{drop, sym, refl, ap, ◌∙◌, arith, get_or-drop}
use Rattle.book_block.specs.Check.{sums_after}
use Rattle.book_block.proofs.CheckLaws.{sums-step}
use Rattle.book_block.proofs.sums.sums_after.Goals as goal

pub loop-i-init : goal.loop-i-init
unfolding sums_after
loop-i-init c = refl

pub loop-i-preserved : goal.loop-i-preserved
loop-i-preserved c =
    c.add-sums.ensures
    ∙ sums-step (drop c.args.from c.args.bytes.now) c.loop-i.i c.loop-i.sums _ c.loop-i.invariant
    (sym (get_or-drop c.args.from c.args.bytes.now c.loop-i.i 0))

pub returns : goal.returns
returns c = c.loop-i.invariant ∙ ap (sums_after (drop c.args.from c.args.bytes.now)) (omega arith)
