-- "The rank of a knowledge state is the least height of a working plan from it, 255 if none works." And the plan written.
use Rattle.std.specs.Prelude.{◌≡◌, ◌⊎◌, false, true, ℕ, ◌≤◌, ◌<◌, T}
use Rattle.ground.specs.Search.{Least}
use Rattle.knowledge_acts.specs.Acts.{byte_of, set_to, look_at}
use Rattle.knowledge_acts.specs.declared.act.Act.{Act}
use Rattle.knowledge_acts.specs.declared.act.Act.TheVariants.{Set, Look}
use Rattle.plan.specs.Plans.{System, may, Outcome, Plan, stop, set_then, look_then, Works, height}

-- a working plan of height h from k
abbrev pub Reach : System → ℕ → ℕ → Type 0
Reach S k h = (p : Plan) × Works S k p × (height p ≡ h)

-- "none works"
abbrev pub Cannot : System → ℕ → Type 0
Cannot S k = (p : Plan) → Works S k p → ⊥

-- "the least height of a working plan from it, 255 if none works"
abbrev pub IsRank : System → ℕ → ℕ → Type 0
IsRank S k r = Least (Reach S k) r ⊎ ((r ≡ 255) × Cannot S k)

-- an act that may be done at k and "whose outcomes all have a rank lower than" r
pub record Lowers (S : System) (k r : ℕ) (a : Act) : Type 0 where
  pub allowed : T (may S k a)
  pub lower : (x : ℕ) → Outcome k a x → (s : ℕ) × IsRank S x s × (s < r)

-- "the smallest act byte whose outcomes all have a rank lower than the state's"
pub record Chosen (S : System) (k : ℕ) (a : Act) : Type 0 where
  pub rank : ℕ
  pub is_rank : IsRank S k rank
  pub lowers : Lowers S k rank a
  pub smallest : (c : Act) → Lowers S k rank c → byte_of a ≤ byte_of c

-- "The plan written takes at every state the smallest act byte whose outcomes all have a rank lower than the state's, and stops at
-- rank 0."
abbrev pub Written : System → ℕ → Plan → Type 0
Written S k stop = IsRank S k 0
Written S k (set_then i q b p) = Chosen S k (Set i q b) × Written S (set_to k i b) p
Written S k (look_then i q p r) = Chosen S k (Look i q) × Written S (look_at k i false) p × Written S (look_at k i true) r
