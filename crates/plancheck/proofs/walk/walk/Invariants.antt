-- `walk` meets its contract: after each turn the standing and the bytes that are left give the answer of the whole plan.
use Rattle.knowledge.specs.Goal.{wanted}
use Rattle.question.specs.Question.{system_of}
use Rattle.plancheck.proofs.StandingLaws.{Walking}
use Rattle.plancheck.proofs.walk.walk.Given as goal

abbrev pub invariant-loop-at : goal.invariant-loop-at
invariant-loop-at l = Walking l.n (system_of l.n l.book l.question (wanted l.goal)) l.start l.plan l.standing l.at
