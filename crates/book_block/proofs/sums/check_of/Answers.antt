-- `book_block::sums::check_of` meets its contract: after each turn the sums are those of so many bytes, those past the end 0.
use Rattle.std.proofs.Common.{drop, sym, ap, ◌∙◌, arith, length-drop}
use Rattle.std.proofs.lemmas.List.{get_or_past}
use Rattle.book_block.specs.Check.{sums_after, check}
use Rattle.book_block.proofs.CheckLaws.{sums-step}
use Rattle.book_block.proofs.sums.check_of.Goals as goal

pub loop-init : goal.loop-init
loop-init c = c.sums_after-sums.ensures

pub loop-preserved : goal.loop-preserved
loop-preserved c =
    let block = drop c.args.from c.args.bytes.now in
    c.add-sums.ensures
    ∙ sums-step block c.loop.counter c.loop.sums _ c.loop.invariant
    (sym (get_or_past block c.loop.counter 0 (omega (arith, length-drop c.args.from c.args.bytes.now, c.loop.auto.counter))))

pub returns : goal.returns
unfolding check
returns c = c.loop.invariant ∙ ap (sums_after (drop c.args.from c.args.bytes.now)) (omega arith)
