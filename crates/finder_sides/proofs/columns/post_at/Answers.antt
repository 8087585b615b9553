-- `finder_sides::columns::post_at` meets its contract: the bit of the team, then the rule.
use mathlib.Core.Path.{sym, ap, ◌∙◌}
use lib.ListN.{drop}
use Rattle.ground.specs.Table.{truth}
use Rattle.book_block.proofs.RuleLaws.{rule-truth}
use Rattle.finder_sides.proofs.columns.post_at.Goals as goal

pub returns-then-bit_of : goal.returns-then-bit_of
returns-then-bit_of c =
    let args = c.args in
    rw (sym c.bit_of.ensures ∙ c.if-bit_of.true)
    (c.finds.ensures ∙ ap (λ p. truth (drop p args.book.now) args.v.0) c.rule_at.ensures
    ∙ rule-truth args.book.now args.setting args.post args.right args.v.0 c.requires)
