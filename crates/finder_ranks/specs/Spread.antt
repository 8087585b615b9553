-- The ranks spread from marks: what is asked for, and what is left. For the crate's own functions; `Fills` says the same of the whole step.
use Rattle.std.specs.Prelude.{◌≡◌, ◌⊎◌, List, ℕ, ◌^◌, ◌≤◌, ◌<◌, length}
use Rattle.finder_ranks.specs.Ranks.{rank, HasLower}

-- what the spread asks for: a rank table with room for every knowledge number, each marked with 0 or with 255
pub record Ready (n : ℕ) (t : List ℕ) : Type 0 where
  pub few : n ≤ 7
  pub room : 7 ^ n ≤ length t
  pub marks : (k : ℕ) → k < 7 ^ n → (rank t k ≡ 0) ⊎ (rank t k ≡ 255)

-- what it leaves
pub record Spread (n : ℕ) (set look : List (List ℕ)) (before after : List ℕ) : Type 0 where
  pub same_length : length after ≡ length before
  -- "later bytes .. keep what they held"
  pub beyond : (k : ℕ) → 7 ^ n ≤ k → rank after k ≡ rank before k
  pub most : (k : ℕ) → k < 7 ^ n → rank after k ≤ 255
  -- a marked state has 0
  pub settled : (k : ℕ) → k < 7 ^ n → rank before k ≡ 0 → rank after k ≡ 0
  -- any other entry below 255 has an act that leads to strictly lower entries
  pub reached : (k : ℕ) → k < 7 ^ n → rank after k < 255 → (rank before k ≡ 0) ⊎ HasLower n set look after k (rank after k)
  -- no act leads to outcomes that would give a lower entry
  pub least : (k : ℕ) → k < 7 ^ n → (h : ℕ) → HasLower n set look after k h → rank after k ≤ h
