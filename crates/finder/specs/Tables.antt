-- Inside: what the finder's tables tell of a system, and the step that the plan written takes. No contract of a function that an outside caller
-- reaches cites this.
use Rattle.std.specs.Prelude.{◌≡◌, Bool, Option, Some, None, List, ℕ, ◌+◌, ◌/◌, ◌%◌, ◌^◌, ◌≤◌, ◌<◌, length, get_or}
use Rattle.ground.specs.Digits.{digit, bit}
use Rattle.knowledge_acts.specs.Acts.{of_kind}
use Rattle.knowledge_acts.specs.declared.act.Act.{Act}
use Rattle.knowledge_acts.specs.declared.act.Act.TheVariants.{Set, Look}
use Rattle.plan.specs.Plans.{System, Lawful, may, Plan}
use Rattle.plan.specs.Bytes.{encode}
use Rattle.plan.specs.Ranks.{IsRank, Chosen, Written}
use Rattle.plan.specs.Certificate.{Leads}
use Rattle.finder_sides.specs.Sides.{now_side_number}
use Rattle.finder_sides.specs.Tables.{entry}

-- bit q of the two tables tells whether post q may act at a state's present side, and the bytes of the rank table are the ranks
pub record TablesTell (n : ℕ) (set look : List (List ℕ)) (ranks : List ℕ) (S : System) : Type 0 where
  pub few : n ≤ 7
  pub law : Lawful n S
  pub sets : (k i q : ℕ) (b : Bool) → i < n → q < 8 → may S k (Set i q b) ≡ bit (entry set i (now_side_number n k)) q
  pub looks : (k i q : ℕ) → i < n → q < 8 → digit 7 k i ≡ 0 → may S k (Look i q) ≡ bit (entry look i (now_side_number n k)) q
  pub ranked : (k : ℕ) → k < 7 ^ n → IsRank S k (get_or ranks k 0)

-- the act leads from k to lower entries of the rank table
abbrev pub Lower : System → List ℕ → ℕ → Act → Type 0
Lower S ranks k a = Leads S (λ x. get_or ranks x 0) k (get_or ranks k 0) a

-- of the acts f q by the posts q, none leads lower; or the one by the lowest post that does
abbrev pub Tries : System → List ℕ → ℕ → (ℕ → Act) → Option Act → Type 0
Tries S ranks k f None = (q : ℕ) → Lower S ranks k (f q) → ⊥
Tries S ranks k f (Some a) = (q : ℕ) × (a ≡ f q) × Lower S ranks k (f q) × ((p : ℕ) → Lower S ranks k (f p) → q ≤ p)

-- the acts of pair number p, of kind p / 7 on setting p % 7, by the posts q
abbrev pub family : ℕ → ℕ → Act
family p q = of_kind (p / 7) (p % 7) q

-- no act leads lower; or the one that the plan written takes
abbrev pub Chooses : System → List ℕ → ℕ → Option Act → Type 0
Chooses S ranks k None = (a : Act) → Lower S ranks k a → ⊥
Chooses S ranks k (Some a) = Chosen S k a

-- what the writer of a plan starts from: a state with a rank, and tables that tell some system
pub record Ranked (n : ℕ) (set look : List (List ℕ)) (ranks : List ℕ) (k : ℕ) : Type 0 where
  pub few : n ≤ 7
  pub state : k < 7 ^ n
  pub size : 7 ^ n ≤ length ranks
  pub finite : get_or ranks k 0 < 255
  pub system : System
  pub told : TablesTell n set look ranks system

-- the plan written from k fits between `at` and the room's end
abbrev pub PlanFits : ℕ → List (List ℕ) → List (List ℕ) → List ℕ → ℕ → ℕ → ℕ → Type 0
PlanFits n set look ranks k at end = (S : System) → TablesTell n set look ranks S → (p : Plan) → Written S k p → at + length (encode p) ≤ end
