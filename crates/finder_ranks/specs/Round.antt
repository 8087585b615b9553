-- A round of the rank h: every state of rank h - 1 is found and pushed from. For the crate's own functions.
use Rattle.std.specs.Prelude.{◌≡◌, List, ℕ, ◌^◌, ◌≤◌, ◌<◌, ◌+◌, length}
use Rattle.finder_ranks.specs.Ranks.{rank}
use Rattle.finder_ranks.specs.Push.{Grew, SetsDone, LooksDone}

-- k was pushed from along each of the first m settings
pub record Pushed (n : ℕ) (set look : List (List ℕ)) (h k m : ℕ) (t : List ℕ) : Type 0 where
  pub sets : (i : ℕ) → i < m → SetsDone n set t k i
  pub looks : (i : ℕ) → i < m → LooksDone n look h t k i

-- what a visit to k leaves, once the first m settings are done
pub record Visited (n : ℕ) (set look : List (List ℕ)) (h k m : ℕ) (old new : List ℕ) : Type 0 where
  pub grew : Grew n set look h old new
  pub pushed : Pushed n set look h k m new

-- what a round of the rank h is made with
pub record Sweeping (n h : ℕ) (t : List ℕ) : Type 0 where
  pub few : n ≤ 7
  pub room : 7 ^ n ≤ length t
  pub low : 0 < h
  pub high : h < 255

-- no entry from `from` to before `to` is this rank
abbrev pub Bare : ℕ → ℕ → ℕ → List ℕ → Type 0
Bare r from to t = (k : ℕ) → from ≤ k → k < to → rank t k ≡ r → ⊥

-- the states from `from` to before `to` were swept: each of rank h - 1 was pushed from, and r counts them, none if it is 0
pub record Swept (n : ℕ) (set look : List (List ℕ)) (h from to : ℕ) (old new : List ℕ) (r : ℕ) : Type 0 where
  pub grew : Grew n set look h old new
  pub pushed : (k : ℕ) → from ≤ k → k < to → rank new k + 1 ≡ h → Pushed n set look h k n new
  pub few : r + from ≤ to
  pub still : r ≡ 0 → new ≡ old
  pub none : r ≡ 0 → (k : ℕ) → from ≤ k → k < to → rank new k + 1 ≡ h → ⊥
