-- "A question may have a second leg with its own team and goal." What is known at the start and "Held settings are the same for both legs", so the
-- second leg is a question like any other; and the refusals of both in their order: "10 and 12 for the second leg after the first's".
use Rattle.std.specs.Prelude.{List, [], ◌∷◌, ◌++◌, ℕ, Result, Ok, Err}
use Rattle.refusal.specs.declared.Refusal.{Refusal}
use Rattle.refusal.specs.declared.Refusal.TheVariants.{Team, Goal as WrongGoal}
use Rattle.refusal.specs.Order.{Row, when, First}
use Rattle.book_sound.specs.declared.Size.{Size}
use Rattle.book_sound.specs.Rows.{settings_of, posts_of}
use Rattle.knowledge.specs.Goal.{Goal}
use Rattle.plan.specs.Plans.{System, Plan}
use Rattle.plan.specs.Legs.{WorksThen, first_leg}
use Rattle.question.specs.Question.{system_of, start_of}
use Rattle.question.specs.Rows.{TeamFits, GoalFits, question_rows}
use Rattle.question.specs.Asks.{ValidQuestion}
use Rattle.question.specs.declared.Question.{Question}

-- the question of the second leg, whose team is `team2`
abbrev pub second_question : Question → ℕ → Question
second_question q team2 = record { team = team2; known = q.known; values = q.values; held = q.held }

-- the system of the second leg: "by the second team and goal alone"
abbrev pub second_system : ℕ → List ℕ → Question → ℕ → Goal → System
second_system n book q team2 goal = system_of n book (second_question q team2) goal

-- and of the first: the first team's acts, and its goal where the second team can go on to its own
abbrev pub first_system : ℕ → List ℕ → Question → Goal → ℕ → Goal → System
first_system n book q goal team2 goal2 = first_leg n (system_of n book q goal) (second_system n book q team2 goal2)

-- "there is a working plan of the first team at each of whose stops, in the knowledge reached there, the second team has a working plan": such a plan,
-- from what the first team knows at the start
abbrev pub WorksForTwo : List ℕ → Question → Goal → ℕ → Goal → ℕ → Plan → Type 0
WorksForTwo book q goal team2 goal2 n p = WorksThen (system_of n book q goal) (second_system n book q team2 goal2) (start_of q) p

-- a question of two legs that refusals 6 to 12 and 31 let through, over a book of n settings and m posts
pub record ValidLegs (book : List ℕ) (q : Question) (goal : Goal) (team2 : ℕ) (goal2 : Goal) (n m : ℕ) : Type 0 where
  pub first : ValidQuestion book q goal n m
  pub second_team : TeamFits m team2
  pub second_goal : GoalFits n goal2

-- 10 and 12 of the second leg
abbrev pub second_rows : List ℕ → ℕ → Goal → List Row
second_rows book team2 goal2 =
    when (TeamFits (posts_of book) team2 → ⊥) Team
    ∷ when (GoalFits (settings_of book) goal2 → ⊥) WrongGoal
    ∷ []

-- and they come after the first leg's
unfoldable pub leg_rows : List ℕ → Question → Goal → ℕ → Goal → List Row
leg_rows book q goal team2 goal2 = question_rows book q goal ++ second_rows book team2 goal2

-- what `ask_two` gives: the first of them, or the book's numbers
abbrev pub AsksTwo : List ℕ → Question → Goal → ℕ → Goal → Result Size Refusal → Type 0
AsksTwo book q goal team2 goal2 (Ok size) = ValidLegs book q goal team2 goal2 size.settings size.posts
AsksTwo book q goal team2 goal2 (Err r) = First (leg_rows book q goal team2 goal2) r
