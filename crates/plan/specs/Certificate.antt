-- When a table is a table of ranks, judged at each entry by its neighbours alone: whatever loop filled it, no plan is looked at.
-- Has tells which states have an entry: all numbers below 7 ^ n for a question's table.
use Rattle.std.specs.Prelude.{◌≡◌, ◌⊎◌, ℕ, ◌≤◌, ◌<◌, T}
use Rattle.knowledge_acts.specs.declared.act.Act.{Act}
use Rattle.plan.specs.Plans.{System, may, Outcome}

-- an act that may be done at k, to outcomes with entries below h
pub record Leads (S : System) (table : ℕ → ℕ) (k h : ℕ) (a : Act) : Type 0 where
  pub allowed : T (may S k a)
  pub lower : (x : ℕ) → Outcome k a x → table x < h

pub record Certified (Has : ℕ → Type 0) (S : System) (table : ℕ → ℕ) : Type 0 where
  -- "255 if none works"
  pub most : (k : ℕ) → Has k → table k ≤ 255
  -- a state with the goal settled has 0
  pub settled : (k : ℕ) → Has k → T (S.goal k) → table k ≡ 0
  -- any other entry below 255 has an act that leads to strictly lower entries
  pub reached : (k : ℕ) → Has k → table k < 255 → T (S.goal k) ⊎ ((a : Act) × Leads S table k (table k) a)
  -- no act leads to outcomes that would give a lower entry
  pub least : (k : ℕ) → Has k → (a : Act) (h : ℕ) → Leads S table k h a → table k ≤ h
