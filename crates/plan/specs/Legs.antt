-- Two legs: "The first team must settle its goal and stop where the second team, carrying on with everything known, can settle its own." S is the
-- system of the first team and R that of the second, each with its own goal; both speak of the same knowledge numbers.
use Rattle.std.specs.Prelude.{Bool, true, false, ◌&&◌, ℕ, suc, ◌-◌, ◌^◌, ◌≡◌, T}
use Rattle.knowledge_acts.specs.Acts.{set_to, look_at}
use Rattle.knowledge_acts.specs.declared.act.Act.TheVariants.{Set, Look}
use Rattle.plan.specs.Plans.{System, may, Plan, stop, set_then, look_then, Works, height}
use Rattle.plan.specs.Layers.{below}

-- a plan of the first team that works, and at each of its stops, in the knowledge reached there, the second team has a working plan
abbrev pub WorksThen : System → System → ℕ → Plan → Type 0
WorksThen S R k stop = T (S.goal k) × ((p : Plan) × Works R k p)
WorksThen S R k (set_then i q b p) = T (may S k (Set i q b)) × WorksThen S R (set_to k i b) p
WorksThen S R k (look_then i q p r) = T (may S k (Look i q)) × WorksThen S R (look_at k i false) p × WorksThen S R (look_at k i true) r

-- "The height is that of the first leg alone": such a plan of height h from k
abbrev pub ReachThen : System → System → ℕ → ℕ → Type 0
ReachThen S R k h = (p : Plan) × WorksThen S R k p × (height p ≡ h)

-- whether R has a working plan from k, as a computed test: where it has one, it has one of height at most 2^(n+1) − 2 (proofs/Legs `can_exactly`)
unfoldable pub can_from : ℕ → System → ℕ → Bool
can_from n R k = below n R (2 ^ suc n - 1) k

-- the acts of a system, with another goal
abbrev pub with_goal : System → (ℕ → Bool) → System
with_goal S goal = record { offers = S.offers; permits = S.permits; goal = goal }

-- the first leg: the acts of the first team, and its goal where the second team can go on to its own
unfoldable pub first_leg : ℕ → System → System → System
first_leg n S R = with_goal S (λ k. S.goal k && can_from n R k)
