-- Inside: what the private functions mean. No public contract cites this.
use Rattle.std.specs.Prelude.{List, ℕ, ◌*◌, take}
use Rattle.book.specs.Written.{book_of}
use Rattle.knowledge.specs.Goal.{Goal, goal_of}
use Rattle.question.specs.declared.Question.{Question}
use Rattle.sheet_reading.specs.Sheet.{Sheet}
use Rattle.sheet_reading.specs.Desk.{OnDesk}
use Rattle.sheet_reading.specs.declared.Desk.{Desk}
use Rattle.sheet_reading.specs.Grammar.{WellFormed}

-- a whole sheet is on the desk
pub record Whole (d : Desk) : Type 0 where
  pub sheet : Sheet
  pub holds : OnDesk sheet d
  pub well_formed : WellFormed sheet

-- the rights and the learn tables on the desk, without what its arrays have past them
unfoldable pub rights_in : Desk → List ℕ
rights_in d = take (256 * d.rules.settings) d.rules.rights

unfoldable pub learn_in : Desk → List ℕ
learn_in d = take (16 * d.asked.asks) d.asked.learn

-- the book of those rights, and what is asked over it
unfoldable pub book_in : Desk → List ℕ
book_in d = book_of d.rules.settings d.rules.posts (rights_in d)

abbrev pub question_in : Desk → Question
question_in d = d.asked.question

abbrev pub goal_in : Desk → Goal
goal_in d = goal_of d.asked.make (learn_in d)
