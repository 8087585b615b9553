-- Inside: what the plain finder remembers. Entry k is a height below which no plan works from the state k; that it is one follows from what each
-- entry says of its neighbours alone (proofs/EntryLaws), and no plan is looked at.
use Rattle.std.specs.Prelude.{◌≡◌, ◌⊎◌, Bool, true, false, List, ℕ, suc, ◌^◌, ◌≤◌, ◌<◌, T, length, get_or, set}
use Rattle.knowledge_acts.specs.declared.act.Act.{Act}
use Rattle.knowledge.specs.Goal.{Goal, goal_settled}
use Rattle.plan.specs.Plans.{System, may, Lawful, Outcome}
use Rattle.plan.specs.Layers.{below}
use Rattle.finder_plain.specs.Tries.{Blocked}

-- an entry above 0 is at no goal state, and each act that may be done there has an outcome whose entry is at most one lower
pub record Bars (n : ℕ) (S : System) (entries : List ℕ) : Type 0 where
  pub size : length entries ≡ 823543
  pub unsettled : (k : ℕ) → k < 7 ^ n → 0 < get_or entries k 0 → T (S.goal k) → ⊥
  pub near : (k : ℕ) → k < 7 ^ n → 0 < get_or entries k 0 → (a : Act) → T (may S k a) → (x : ℕ) × Outcome k a x × (get_or entries k 0 ≤ suc (get_or entries x 0))

-- what a search from the state k stands on
pub record Searches (n : ℕ) (S : System) (k : ℕ) (entries : List ℕ) : Type 0 where
  pub few : n ≤ 7
  pub law : Lawful n S
  pub state : k < 7 ^ n
  pub bars : Bars n S entries

-- what is asked of the goal at the state k: where its entry is above 0 the goal is not settled
pub record AsksGoal (n : ℕ) (goal : Goal) (k : ℕ) (entries : List ℕ) : Type 0 where
  pub few : n ≤ 7
  pub there : k < 823543
  pub unsettled : 0 < get_or entries k 0 → T (goal_settled n goal k) → ⊥

-- entries only grow
pub record Grown (old new : List ℕ) : Type 0 where
  pub up : (k : ℕ) → get_or old k 0 ≤ get_or new k 0

-- the entry of k is at least h from here on, and no other changed
abbrev pub Raised : ℕ → ℕ → List ℕ → List ℕ → Type 0
Raised k h old new = ((new ≡ old) × (h ≤ get_or old k 0)) ⊎ ((new ≡ set old k h) × (get_or old k 0 < h))

-- a search from k for a plan of a height below h: yes, there is one; no, the entry of k is at least h
pub record Searched (n : ℕ) (S : System) (k h : ℕ) (old new : List ℕ) (r : Bool) : Type 0 where
  pub bars : Bars n S new
  pub grown : Grown old new
  pub found : r ≡ true → T (below n S h k)
  pub failed : r ≡ false → h ≤ get_or new k 0

-- a search by one try, for outcomes with plans of a height below h
pub record SearchedBy (n : ℕ) (S : System) (k : ℕ) (a : Act) (h : ℕ) (old new : List ℕ) (r : Bool) : Type 0 where
  pub bars : Bars n S new
  pub grown : Grown old new
  pub found : r ≡ true → T (below n S (suc h) k)
  pub failed : r ≡ false → Blocked (may S k) new k a h
