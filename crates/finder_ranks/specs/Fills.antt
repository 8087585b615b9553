-- "The rank of a knowledge state is the least height of a working plan from it, 255 if none works", told of each entry by its neighbours alone: the
-- local certificate of a table of ranks, over knowledge numbers, the states with the goal settled and two tables of what is permitted.
use Rattle.std.specs.Prelude.{◌≡◌, ◌⊎◌, List, Bool, not, ◌&&◌, ℕ, ◌^◌, ◌≤◌, ◌<◌, T, eqb, length}
use Rattle.finder_sides.specs.Tables.{goal_at}
use Rattle.finder_ranks.specs.Ranks.{rank, HasLower}

-- there is a rank table to fill: one to seven settings, and room for each of their knowledge numbers
pub record RanksFit (n : ℕ) (t : List ℕ) : Type 0 where
  pub some : 0 < n
  pub few : n ≤ 7
  pub room : 7 ^ n ≤ length t

-- the certificate, of the table before and after
pub record RankTable (n : ℕ) (goal : ℕ → Bool) (set look : List (List ℕ)) (before after : List ℕ) : Type 0 where
  pub same_length : length after ≡ length before
  -- "later bytes .. keep what they held"
  pub beyond : (k : ℕ) → 7 ^ n ≤ k → rank after k ≡ rank before k
  pub most : (k : ℕ) → k < 7 ^ n → rank after k ≤ 255
  -- a state where the goal is settled has 0
  pub settled : (k : ℕ) → k < 7 ^ n → T (goal k) → rank after k ≡ 0
  -- any other entry below 255 has an act that leads to strictly lower entries
  pub reached : (k : ℕ) → k < 7 ^ n → rank after k < 255 → T (goal k) ⊎ HasLower n set look after k (rank after k)
  -- no act leads to outcomes that would give a lower entry
  pub least : (k : ℕ) → k < 7 ^ n → (h : ℕ) → HasLower n set look after k h → rank after k ≤ h

-- what `fill_ranks` leaves: a certified table, or, where there is none to fill, the bytes that it was lent
pub record FillsRanks (n : ℕ) (made learnt : List ℕ) (set look : List (List ℕ)) (before after : List ℕ) : Type 0 where
  pub filled : RanksFit n before → RankTable n (goal_at n made learnt) set look before after
  pub kept : (RanksFit n before → ⊥) → after ≡ before

-- the goal of a first leg: settled, "and stop where the second team .. can settle its own", which the second leg's table of ranks tells
unfoldable pub goal_then : ℕ → List ℕ → List ℕ → List ℕ → ℕ → Bool
goal_then n made learnt ranks2 k = goal_at n made learnt k && not (eqb (rank ranks2 k) 255)

-- what `fill_first` leaves: a certified table, or, where there is none to fill or the second leg's is too short, the bytes that it was lent
pub record FillsFirst (n : ℕ) (made learnt ranks2 : List ℕ) (set look : List (List ℕ)) (before after : List ℕ) : Type 0 where
  pub filled : RanksFit n ranks2 → RanksFit n before → RankTable n (goal_then n made learnt ranks2) set look before after
  pub kept : (RanksFit n ranks2 → RanksFit n before → ⊥) → after ≡ before
