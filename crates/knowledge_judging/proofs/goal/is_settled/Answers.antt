-- `knowledge_judging::goal::is_settled` meets its contract: the count of settings, the make formula, then the learn formulas.
use mathlib.Core.Path.{sym, ◌∙◌}
use native.Mathlib.Omega.{arith}
use borrow.Author.Tests.{leb-true, lt-leb}
use Rattle.knowledge_judging.proofs.GoalLaws.{goal-not, goal-learnt}
use Rattle.knowledge_judging.proofs.goal.is_settled.Goals as goal
use Rattle.knowledge_judging.proofs.goal.is_settled.Goals.{then-n-le-MOST, else-n-le-MOST}

pub returns-then-holds : goal.returns-then-holds
returns-then-holds c = elim c.if-n-le-MOST.branch [
  | then-n-le-MOST w ↦ goal-learnt c.args.n c.args.k w.if-n-le-MOST.true c.from_number-state.ensures c.args.goal.make.now c.args.goal.learn.now
      w.judge.ensures w.holds.ensures (sym w.value-is ∙ c.if-holds.true) c.learnt.ensures
  | else-n-le-MOST w ↦ absurd (omega (arith, leb-true _ _ (sym w.value-is ∙ c.if-holds.true), w.if-n-le-MOST.false))
]

pub returns-else-holds : goal.returns-else-holds
returns-else-holds c = elim c.if-n-le-MOST.branch [
  | then-n-le-MOST w ↦ c.if-holds.false ∙ goal-not c.args.n c.args.k w.if-n-le-MOST.true c.from_number-state.ensures c.args.goal.make.now c.args.goal.learn.now
      w.judge.ensures w.holds.ensures (sym w.value-is ∙ c.if-holds.false)
  | else-n-le-MOST w ↦ rw (lt-leb _ _ w.if-n-le-MOST.false) c.if-holds.false
]
