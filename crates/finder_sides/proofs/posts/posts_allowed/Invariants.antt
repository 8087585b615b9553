-- `finder_sides::posts::posts_allowed` meets its contract. The loop has filled the tables of the first settings.
use mathlib.Core.Path.{◌≡◌}
use Prim.Native.Nat.{min}
use Rattle.finder_sides.specs.Tables.{acting_on}
use Rattle.finder_sides.proofs.PostLaws.{RowsTo}
use Rattle.finder_sides.proofs.posts.posts_allowed.Given as goal

abbrev pub invariant-loop-setting : goal.invariant-loop-setting
invariant-loop-setting l = (l.settings ≡ min l.n 7) × RowsTo l.settings l.book (acting_on l.team l.held) l.right l.setting-counter l.tables
