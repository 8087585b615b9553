-- `finder_sides::goal::learnt` meets its contract. The loop has met the tables of the first j learn formulas.
use mathlib.Core.Path.{◌≡◌}
use Prim.Native.Nat.{min}
use Rattle.finder_sides.proofs.GoalLaws.{LearntTo}
use Rattle.finder_sides.proofs.goal.learnt.Given as goal

abbrev pub invariant-loop-j : goal.invariant-loop-j
invariant-loop-j l = (l.settings ≡ min l.n 7) × LearntTo l.settings l.learn l.j l.table
