-- What `find_two` gives: the answer, and the three lent rooms on return, for every book, question of two legs and rooms. "The height is that of the
-- first leg alone; both plans' tables are filled, each in its own lent rank table. [..] The plan written is the first leg's."
use Rattle.std.specs.Prelude.{◌≡◌, ◌⊎◌, Result, Err, List, [], ◌∷◌, ◌++◌, ℕ, ◌^◌, ◌≤◌, ◌<◌, length}
use Rattle.refusal.specs.declared.Refusal.{Refusal}
use Rattle.refusal.specs.declared.Refusal.TheVariants.{RankRoom}
use Rattle.refusal.specs.Order.{Row, when, First}
use Rattle.book_sound.specs.Rows.{settings_of}
use Rattle.knowledge.specs.Goal.{Goal}
use Rattle.question.specs.Question.{start_of}
use Rattle.question.specs.Legs.{second_system, first_system, ValidLegs, leg_rows}
use Rattle.question.specs.declared.Question.{Question}
use Rattle.finder.specs.declared.answer.Answer.{Answer}
use Rattle.finder.specs.Answers.{AnswersFrom}
use Rattle.finder.specs.Finds.{RanksFilled}

-- the lent rooms: a rank table for each leg, and the room for the first leg's plan
pub record Rooms : Type 0 where
  pub ranks : List ℕ
  pub ranks2 : List ℕ
  pub plan : List ℕ

abbrev pub rooms_of : List ℕ → List ℕ → List ℕ → Rooms
rooms_of ranks ranks2 plan = record { ranks = ranks; ranks2 = ranks2; plan = plan }

-- "13 with place 1 or 2 for the first short table"
abbrev pub room_rows : List ℕ → Rooms → List Row
room_rows book old =
    when (length old.ranks < 7 ^ settings_of book) (RankRoom 1)
    ∷ when (length old.ranks2 < 7 ^ settings_of book) (RankRoom 2)
    ∷ []

-- and it comes after the refusals of both legs
unfoldable pub find_two_rows : List ℕ → Question → Goal → ℕ → Goal → Rooms → List Row
find_two_rows book q goal team2 goal2 old = leg_rows book q goal team2 goal2 ++ room_rows book old

-- a question that is refused before it is looked into, which leaves all three rooms as they were
pub record UnmetTwo (book : List ℕ) (q : Question) (goal : Goal) (team2 : ℕ) (goal2 : Goal) (old : Rooms) (answer : Result Answer Refusal) (new : Rooms) : Type 0 where
  pub why : Refusal
  pub answered : answer ≡ Err why
  pub first : First (find_two_rows book q goal team2 goal2 old) why
  pub kept : new ≡ old

-- a valid question over n settings: the ranks of both legs, the second's "by the second team and goal alone", and the answer of the first
pub record AnsweredTwo (n : ℕ) (book : List ℕ) (q : Question) (goal : Goal) (team2 : ℕ) (goal2 : Goal) (old : Rooms) (answer : Result Answer Refusal) (new : Rooms) : Type 0 where
  pub second_ranks : RanksFilled n (second_system n book q team2 goal2) old.ranks2 new.ranks2
  pub first_ranks : RanksFilled n (first_system n book q goal team2 goal2) old.ranks new.ranks
  pub answers : AnswersFrom (first_system n book q goal team2 goal2) (start_of q) old.plan answer new.plan

-- there is room for the ranks of both legs
pub record RoomForTwo (n : ℕ) (old : Rooms) : Type 0 where
  pub first_room : 7 ^ n ≤ length old.ranks
  pub second_room : 7 ^ n ≤ length old.ranks2

-- what `find_two` gives
abbrev pub FindsTwo : List ℕ → Question → Goal → ℕ → Goal → Rooms → Result Answer Refusal → Rooms → Type 0
FindsTwo book q goal team2 goal2 old answer new =
    UnmetTwo book q goal team2 goal2 old answer new
    ⊎ ((n : ℕ) × (m : ℕ) × ValidLegs book q goal team2 goal2 n m × RoomForTwo n old × AnsweredTwo n book q goal team2 goal2 old answer new)
