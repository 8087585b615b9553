-- `book_block::rule::rule_at` meets its contract: the setting's block, and the place of the table in it.
use Rattle.std.proofs.Common.{ℕ, ◌+◌, ◌*◌, ap, arith}
use Rattle.book_block.specs.Rule.{rule_place}
use Rattle.book_block.proofs.RuleLaws.{place-small}
use Rattle.book_block.proofs.rule.rule_at.Goals as goal

pub overflow_add-result-2 : goal.overflow_add-result-2
overflow_add-result-2 c =
    let a = c.args in
    omega (arith, c.table_at.ensures, place-small a.post a.right (omega (arith, c.ranges.post.fits)))

pub returns : goal.returns
unfolding rule_place
returns c = ap (λ (k : ℕ). 512 * (1 + c.args.setting) + k) c.table_at.ensures
