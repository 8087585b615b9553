-- A search that the checker runs: the states that acts lead to, their ranks, and the plan written. Nothing is claimed of it here: what it finds is
-- tested afterwards (proofs/Found).
use mathlib.Core.List.{List, [], ◌∷◌, ◌++◌}
use mathlib.Core.Bool.{Bool, true, false, ◌&&◌, ◌||◌, cond}
use Prim.Native.Nat.{ℕ, zero, suc}
use lib.Dec.{eqb, ltb}
use Rattle.ground.specs.Digits.{digit, put}
use Rattle.knowledge_acts.specs.Seven.{after_set, after_look}
use Rattle.knowledge_acts.specs.Acts.{set_to, look_at}
use Rattle.knowledge_acts.specs.declared.act.Act.{Act}
use Rattle.knowledge_acts.specs.declared.act.Act.TheVariants.{Set, Look}
use Rattle.plan.specs.Plans.{System, given, Plan, stop, set_then, look_then}
use Rattle.plan.specs.Check.{outcomes}
use Rattle.plan.proofs.States.{elem}
use Rattle.plan.proofs.Sample.{entry}

-- ---- acts, in the order of their bytes

unfoldable by_posts : (ℕ → Act) → ℕ → List Act → List Act
by_posts f zero later = later
by_posts f (suc q) later = by_posts f q (f q ∷ later)

unfoldable by_settings : (ℕ → ℕ → Act) → ℕ → List Act → List Act
unfolding by_posts
by_settings f zero later = later
by_settings f (suc i) later = by_settings f i (by_posts (f i) 8 later)

unfoldable acts_of : ℕ → List Act
unfolding by_settings
acts_of n = by_settings (λ i q. Set i q false) n (by_settings (λ i q. Set i q true) n (by_settings Look n []))

-- ---- states

-- an act that may be done, and the states it leads to
pub record Way : Type 0 where
  pub act : Act
  pub to : List ℕ

pub record Node : Type 0 where
  pub state : ℕ
  pub settled : Bool
  pub ways : List Way

-- (it asks for the rule only where the act is one of the team)
unfoldable allowed : System → ℕ → Act → Bool
allowed S k a = elim (S.offers a) [ true ↦ given (S.permits k a) | false ↦ false ]

unfoldable ways_at : System → ℕ → List Act → List Way
unfolding allowed set_to look_at after_set after_look digit put
ways_at S k [] = []
ways_at S k (a ∷ more) = elim (allowed S k a) [ true ↦ record { act = a; to = outcomes k a } ∷ ways_at S k more | false ↦ ways_at S k more ]

unfoldable all_to : List Way → List ℕ → List ℕ
all_to [] later = later
all_to (w ∷ ws) later = w.to ++ all_to ws later

unfoldable states_of : List Node → List ℕ
states_of [] = []
states_of (x ∷ xs) = x.state ∷ states_of xs

-- from the states that are left, with those that are seen; the first number is for the checker alone, and is large enough
unfoldable explore : ℕ → System → List Act → List ℕ → List Node → List Node
unfolding ways_at all_to states_of elem
explore zero S acts left seen = seen
explore (suc f) S acts [] seen = seen
explore (suc f) S acts (k ∷ left) seen = elim (elem k (states_of seen)) [
  | true ↦ explore f S acts left seen
  | false ↦ (let w = ways_at S k acts in explore f S acts (all_to w left) (record { state = k; settled = S.goal k; ways = w } ∷ seen))
]

-- ---- ranks

unfoldable all-low : (ℕ → ℕ) → List ℕ → ℕ → Bool
all-low rank [] h = true
all-low rank (x ∷ xs) h = ltb (rank x) h && all-low rank xs h

unfoldable some-low : (ℕ → ℕ) → List Way → ℕ → Bool
unfolding all-low
some-low rank [] h = false
some-low rank (w ∷ ws) h = all-low rank w.to h || some-low rank ws h

-- those of height 0
unfoldable at_once : List Node → List ℕ
at_once [] = []
at_once (x ∷ xs) = cond x.settled 0 255 ∷ at_once xs

-- the states that get the rank h, by the ranks so far
unfoldable grown : (ℕ → ℕ) → ℕ → List Node → List ℕ → List ℕ
unfolding some-low
grown rank h [] rs = []
grown rank h (x ∷ xs) [] = []
grown rank h (x ∷ xs) (r ∷ rs) = elim (ltb r 255) [ true ↦ r | false ↦ cond (some-low rank x.ways h) h 255 ] ∷ grown rank h xs rs

-- height by height; as many heights as there are states suffice
unfoldable grow : List Node → List Node → ℕ → List ℕ → List ℕ
unfolding grown entry states_of
grow nodes [] h rs = rs
grow nodes (x ∷ more) h rs = grow nodes more (suc h) (grown (entry (states_of nodes) rs) h nodes rs)

unfoldable ranks_of : List Node → List ℕ
unfolding grow at_once
ranks_of nodes = grow nodes nodes 1 (at_once nodes)

-- the states of rank 255
unfoldable lost : List Node → List ℕ → List ℕ
lost [] rs = []
lost (x ∷ xs) [] = []
lost (x ∷ xs) (r ∷ rs) = elim (ltb r 255) [ true ↦ lost xs rs | false ↦ x.state ∷ lost xs rs ]

-- ---- the plan written

unfoldable ways_of : List Node → ℕ → List Way
ways_of [] k = []
ways_of (x ∷ xs) k = elim (eqb x.state k) [ true ↦ x.ways | false ↦ ways_of xs k ]

-- the first way to lower ranks, or none
unfoldable choice : (ℕ → ℕ) → ℕ → List Way → List Way
unfolding all-low
choice rank h [] = []
choice rank h (w ∷ ws) = elim (all-low rank w.to h) [ true ↦ w ∷ [] | false ↦ choice rank h ws ]

-- of at most h acts on a branch
unfoldable plan_from : List Node → (ℕ → ℕ) → ℕ → ℕ → Plan
plan_from nodes rank zero k = stop
plan_from nodes rank (suc h) k = elim (choice rank (rank k) (ways_of nodes k)) [
  | [] ↦ stop
  | w ∷ ws ↦ elim w.act [
    | Set i q b ↦ set_then i q b (plan_from nodes rank h (set_to k i b))
    | Look i q ↦ look_then i q (plan_from nodes rank h (look_at k i false)) (plan_from nodes rank h (look_at k i true))
  ]
]

-- ---- all of it, over n settings from the state k

pub record Certificate : Type 0 where
  pub states : List ℕ
  pub ranks : List ℕ
  pub none : List ℕ
  pub height : ℕ
  pub plan : Plan

unfoldable pub searched : List Node → List ℕ → ℕ → Certificate
unfolding states_of lost entry ways_of choice plan_from set_to look_at after_set after_look digit put
searched nodes rs k =
    let states = states_of nodes in
    let rank : ℕ → ℕ = entry states rs in
    let h = rank k in
    record { states = states; ranks = rs; none = lost nodes rs; height = h; plan = elim (ltb h 255) [ true ↦ plan_from nodes rank h k | false ↦ stop ] }

unfoldable pub sought : ℕ → System → ℕ → Certificate
unfolding acts_of explore ranks_of searched
sought n S k = let nodes = explore 2000 S (acts_of n) (k ∷ []) [] in searched nodes (ranks_of nodes) k
