-- "A question: the book's 6 to 9, then 10, 11, 12, 13, 14", and "31 for a held setting past n, after 11". Each refusal is given exactly when what it
-- denies does not hold. 13 and 14 are the finder's own.
use Rattle.std.specs.Prelude.{◌≡◌, List, [], ◌∷◌, ◌++◌, ℕ, ◌%◌, ◌≤◌, ◌<◌, T, length}
use Rattle.ground.specs.Digits.{bit}
use Rattle.ground.specs.Table.{Within}
use Rattle.refusal.specs.declared.Refusal.TheVariants.{Team, Known, Goal as WrongGoal, Held}
use Rattle.refusal.specs.Order.{Row, when}
use Rattle.book_sound.specs.Rows.{settings_of, posts_of, book_rows}
use Rattle.knowledge.specs.Goal.{Goal, learn_count, learn_table}
use Rattle.question.specs.declared.Question.{Question}

-- 10 denies this: "team empty or with a post at or past m"
pub record TeamFits (m team : ℕ) : Type 0 where
  pub someone : team ≡ 0 → ⊥
  pub posts : (q : ℕ) → T (bit team q) → q < m

-- 11: "known settings past n, or a value bit for a setting not known"
pub record KnownFits (n known values : ℕ) : Type 0 where
  pub settings : (i : ℕ) → T (bit known i) → i < n
  pub valued : (i : ℕ) → T (bit values i) → T (bit known i)

-- 31: "a held setting past n"
pub record HeldFits (n held : ℕ) : Type 0 where
  pub settings : (i : ℕ) → T (bit held i) → i < n

-- no learn table has "a bit past 2^n"
abbrev pub LearnWithin : ℕ → List ℕ → Type 0
LearnWithin n learn = (j : ℕ) → j < learn_count learn → Within n (learn_table learn j)

-- 12: "make table not 16 bytes, learn tables not 0 to 4 times 16 bytes, or a bit past 2^n in either"
pub record GoalFits (n : ℕ) (goal : Goal) : Type 0 where
  pub make_bytes : length goal.make ≡ 16
  pub learn_bytes : length goal.learn % 16 ≡ 0
  pub learn_most : learn_count goal.learn ≤ 4
  pub make_within : Within n goal.make
  pub learn_within : LearnWithin n goal.learn

-- "the book's 6 to 9, then 10, 11", then 31, then 12
unfoldable pub question_rows : List ℕ → Question → Goal → List Row
question_rows book q goal =
    book_rows book
    ++ (when (TeamFits (posts_of book) q.team → ⊥) Team
    ∷ when (KnownFits (settings_of book) q.known q.values → ⊥) Known
    ∷ when (HeldFits (settings_of book) q.held → ⊥) Held
    ∷ when (GoalFits (settings_of book) goal → ⊥) WrongGoal
    ∷ [])
