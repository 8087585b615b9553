-- Inside: what is asked, as the code carries it along: its system, and what its team may do.
use Rattle.std.specs.Prelude.{Bool, ℕ}
use Rattle.knowledge_acts.specs.declared.act.Act.{Act}
use Rattle.knowledge.specs.Goal.{wanted}
use Rattle.plan.specs.Plans.{System}
use Rattle.question.specs.Question.{ruled_system}
use Rattle.finder_plain.specs.Tries.{may_do}
use Rattle.finder_plain.specs.declared.asked.Asked.{Asked}

-- the system of the question's rules
abbrev pub asked_system : Asked → System
asked_system s = ruled_system s.n s.book.now s.question (wanted s.goal)

-- the team may do the act at the state k
abbrev pub asked_may : Asked → ℕ → Act → Bool
asked_may s k = may_do s.n s.book.now s.question.team s.question.held k
