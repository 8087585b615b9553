-- `finder_sides::columns::posts_at` meets its contract. The loop has read the posts from the last down.
use mathlib.Core.Bool.{◌&&◌}
use Rattle.ground.specs.Digits.{bit}
use Rattle.ground.specs.Table.{truth}
use Rattle.book_block.specs.Rule.{rule}
use Rattle.finder_sides.proofs.PostLaws.{BitsFrom}
use Rattle.finder_sides.proofs.columns.posts_at.Given as goal

abbrev pub invariant-loop-post : goal.invariant-loop-post
invariant-loop-post l = BitsFrom (λ q. bit l.team q && truth (rule l.book l.setting q l.right) l.v.0) l.post l.bits
