-- What `find` gives: the answer, and the lent rank table and plan room on return, for every book, question, goal and room.
use Rattle.std.specs.Prelude.{◌≡◌, ◌⊎◌, Result, Err, List, [], ◌∷◌, ◌++◌, ℕ, ◌^◌, ◌≤◌, ◌<◌, length, get_or}
use Rattle.refusal.specs.declared.Refusal.{Refusal}
use Rattle.refusal.specs.declared.Refusal.TheVariants.{RankRoom}
use Rattle.refusal.specs.Order.{Row, when, First}
use Rattle.book_sound.specs.Rows.{settings_of}
use Rattle.knowledge.specs.Goal.{Goal}
use Rattle.plan.specs.Plans.{System}
use Rattle.plan.specs.Ranks.{IsRank}
use Rattle.question.specs.Question.{system_of, start_of}
use Rattle.question.specs.Rows.{question_rows}
use Rattle.question.specs.Asks.{ValidQuestion}
use Rattle.question.specs.declared.Question.{Question}
use Rattle.finder.specs.declared.answer.Answer.{Answer}
use Rattle.finder.specs.Answers.{AnswersFrom}

-- a question's refusals, and after them 13: "rank table under 7^n bytes"
unfoldable pub find_rows : List ℕ → Question → Goal → List ℕ → List Row
find_rows book q goal ranks = question_rows book q goal ++ (when (length ranks < 7 ^ settings_of book) (RankRoom 0) ∷ [])

-- "the first 7^n bytes of the rank table hold all ranks, for every knowledge number; later bytes [..] keep what they held"
pub record RanksFilled (n : ℕ) (S : System) (old new : List ℕ) : Type 0 where
  pub size : length new ≡ length old
  pub ranks : (k : ℕ) → k < 7 ^ n → IsRank S k (get_or new k 0)
  pub later : (j : ℕ) → 7 ^ n ≤ j → get_or new j 0 ≡ get_or old j 0

-- a question that is refused before it is looked into
pub record Unmet (book : List ℕ) (q : Question) (goal : Goal) (ranks plan : List ℕ) (answer : Result Answer Refusal) (ranks' plan' : List ℕ) : Type 0 where
  pub why : Refusal
  pub answered : answer ≡ Err why
  pub first : First (find_rows book q goal ranks) why
  pub ranks_kept : ranks' ≡ ranks
  pub plan_kept : plan' ≡ plan

-- a valid question over n settings: all ranks, and the answer
abbrev pub Answered : ℕ → List ℕ → Question → Goal → List ℕ → List ℕ → Result Answer Refusal → List ℕ → List ℕ → Type 0
Answered n book q goal ranks plan answer ranks' plan' =
    RanksFilled n (system_of n book q goal) ranks ranks' × AnswersFrom (system_of n book q goal) (start_of q) plan answer plan'

-- what `find` gives: the first of refusals 6 to 13, which leaves both rooms as they were; or, for a valid question, all ranks and the answer
abbrev pub Finds : List ℕ → Question → Goal → List ℕ → List ℕ → Result Answer Refusal → List ℕ → List ℕ → Type 0
Finds book q goal ranks plan answer ranks' plan' =
    Unmet book q goal ranks plan answer ranks' plan'
    ⊎ ((n : ℕ) × (m : ℕ) × ValidQuestion book q goal n m × (7 ^ n ≤ length ranks)
    × RanksFilled n (system_of n book q goal) ranks ranks'
    × AnswersFrom (system_of n book q goal) (start_of q) plan answer plan')
