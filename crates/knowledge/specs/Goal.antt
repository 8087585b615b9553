-- A goal: its make formula and its learn formulas, as tables, and when it is settled.
use Rattle.std.specs.Prelude.{List, Bool, ◌&&◌, ℕ, ◌*◌, ◌/◌, length, take, drop}
use Rattle.ground.specs.Digits.{digit}
use Rattle.knowledge.specs.declared.goal.Goal as Lent
use Rattle.ground.specs.Search.{all}
use Rattle.knowledge.specs.Judgement.{known, learn_settled}

-- "A goal here is a conjunction": the table of the make formula, and those of the learn formulas, one after the other
pub record Goal : Type 0 where
  pub make : List ℕ
  pub learn : List ℕ

-- in code a goal is two slices, a `Goal` of src/goal.rt
abbrev pub goal_of : List ℕ → List ℕ → Goal
goal_of make learn = record { make = make; learn = learn }

abbrev pub wanted : Lent.Goal → Goal
wanted goal = goal_of goal.make.now goal.learn.now

-- "learn tables not 0 to 4 times 16 bytes" are refused: how many there are, and the one with index j
abbrev pub learn_count : List ℕ → ℕ
learn_count learn = length learn / 16

unfoldable pub learn_table : List ℕ → ℕ → List ℕ
learn_table learn j = take 16 (drop (16 * j) learn)

-- "each learn formula has one same value at all fitting start valuations", where the team knows the digits d
unfoldable pub all_settled : ℕ → (ℕ → ℕ) → List ℕ → Bool
all_settled n d learn = all (learn_count learn) (λ j. learn_settled n d (learn_table learn j))

-- "The goal is settled when the make formula is true at every fitting present valuation, and each learn formula has one same value at all fitting
-- start valuations."
unfoldable pub goal_settled : ℕ → Goal → ℕ → Bool
goal_settled n goal k = known n (digit 7 k) goal.make && all_settled n (digit 7 k) goal.learn
