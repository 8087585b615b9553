-- What `ask` gives: a valid question, or the first of refusals 6 to 12, with 31 between 11 and 12.
use Rattle.std.specs.Prelude.{List, ℕ, Result, Ok, Err}
use Rattle.refusal.specs.declared.Refusal.{Refusal}
use Rattle.refusal.specs.Order.{First}
use Rattle.book_sound.specs.declared.Size.{Size}
use Rattle.book_sound.specs.Sound.{Sound}
use Rattle.knowledge.specs.Goal.{Goal}
use Rattle.question.specs.Rows.{TeamFits, KnownFits, HeldFits, GoalFits, question_rows}
use Rattle.question.specs.declared.Question.{Question}

-- a question that refusals 6 to 12 and 31 let through, over a book of n settings and m posts
pub record ValidQuestion (book : List ℕ) (q : Question) (wanted : Goal) (n m : ℕ) : Type 0 where
  pub sound : Sound book n m
  pub team : TeamFits m q.team
  pub known : KnownFits n q.known q.values
  pub held : HeldFits n q.held
  pub goal : GoalFits n wanted

-- the first of refusals 6 to 12 and 31, or the book's numbers
abbrev pub Asks : List ℕ → Question → Goal → Result Size Refusal → Type 0
Asks book q goal (Ok size) = ValidQuestion book q goal size.settings size.posts
Asks book q goal (Err r) = First (question_rows book q goal) r
