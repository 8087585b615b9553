-- A question: "a book of rights: settings, posts, look and set rules, a team, what it knows, and a goal", and "a third mask: settings held". It fixes the acts that the team may do at
-- each knowledge number, and the knowledge numbers at which the goal is settled: a system of plans. Here alone a book meets plans.
use Rattle.std.specs.Prelude.{◌≡◌, true, List, ℕ, ◌^◌, ◌<◌}
use Rattle.ground.specs.Digits.{digit}
use Rattle.ground.specs.Table.{truth}
use Rattle.knowledge_acts.specs.Acts.{offered}
use Rattle.knowledge.specs.Number.{number_of, first_at}
use Rattle.knowledge.specs.Goal.{Goal, goal_settled}
use Rattle.plan.specs.Plans.{System}
use Rattle.question.specs.Permitted.{ruled, permitted}
use Rattle.question.specs.declared.Question.{Question}

-- the system of a question over n settings: "Acts, by a post of the team", where the book's rules and the held settings permit them and they change
-- something, and the goal
unfoldable pub system_of : ℕ → List ℕ → Question → Goal → System
system_of n book q goal = record {
  offers = offered n q.team;
  permits = λ k a. permitted n book q.held (digit 7 k) a;
  goal = goal_settled n goal;
}

-- the same with the sets that change nothing, as it was before R-9: inside, for the finders, which never come to such a set. No public contract cites it
unfoldable pub ruled_system : ℕ → List ℕ → Question → Goal → System
ruled_system n book q goal = record {
  offers = offered n q.team;
  permits = λ k a. ruled n book q.held (digit 7 k) a;
  goal = goal_settled n goal;
}

-- "At the start each digit is 0, 3 or 6": the knowledge number of what the team knows
unfoldable pub start_of : Question → ℕ
start_of q = number_of 7 (first_at q.known q.values)

-- "(No making: the make formula is `1`.)": a make formula that is true at every valuation
abbrev pub NoMaking : ℕ → Goal → Type 0
NoMaking n goal = (v : ℕ) → v < 2 ^ n → truth goal.make v ≡ true
