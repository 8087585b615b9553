-- `finder_ranks::marks::mark` meets its contract. The loop has marked the states below seven times the rest.
use mathlib.Core.Path.{ap, ◌∙◌}
use Prim.Native.Nat.{◌^◌}
use native.Mathlib.Nat.{min-eq_left}
use native.Mathlib.Omega.{arith}
use Rattle.finder_ranks.proofs.MarkLaws.{marks-all, sevens}
use Rattle.finder_ranks.proofs.marks.mark.Goals as goal

pub returns : goal.returns
returns c =
    marks-all c.args.made.now c.args.learnt.now c.loop-rest.invariant
    (omega (arith, sevens c.args.n c.requires.0, c.numbers-rest-end.ensures ∙ ap (λ k. 7 ^ k) (min-eq_left (omega arith))))
