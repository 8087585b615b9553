-- `finder_sides::columns::columns_of` meets its contract. The loop has stored the columns below v.
use mathlib.Core.Path.{◌≡◌}
use lib.ListN.{length}
use Rattle.finder_sides.specs.Inner.{EachColumn}
use Rattle.finder_sides.proofs.columns.columns_of.Given as goal

abbrev pub invariant-loop-v : goal.invariant-loop-v
invariant-loop-v g l = (length l.columns ≡ 128) × EachColumn (goal.F-post g l.found) l.v l.columns
