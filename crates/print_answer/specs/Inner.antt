-- What `lines` asks of a plan's bytes, and what it gives. Inside: no contract of a function that an outside caller reaches cites it.
use Rattle.std.specs.Prelude.{◌≡◌, List, ◌++◌, ℕ, ◌+◌, ◌^◌, ◌<◌, length, drop}
use Rattle.plan.specs.Plans.{Plan}
use Rattle.plan.specs.Bytes.{encode}
use Rattle.print_room.specs.Wrote.{Ends, Wrote}
use Rattle.print_answer.specs.Listed.{plan_text, Lettered}
use Rattle.print_answer.specs.declared.listing.Next.{Next}

-- the bytes of a plan that can be printed begin at this place
pub record Shows (plan : List ℕ) (at : ℕ) (p : Plan) : Type 0 where
  pub rest : List ℕ
  pub there : drop at plan ≡ encode p ++ rest
  pub lettered : Lettered p

-- such a plan is there, and neither its depths nor its lines run past the numbers of the machine
pub record Readable (plan : List ℕ) (at depth to : ℕ) : Type 0 where
  pub tree : Plan
  pub shown : Shows plan at tree
  pub deep : depth + length (encode tree) < 2 ^ 64
  pub ends : Ends to (plan_text depth tree)

-- whatever plan is there, its lines were written
pub record Lined (plan : List ℕ) (at depth : ℕ) (old : List ℕ) (to : ℕ) (r : Next) (new : List ℕ) (p : Plan) : Type 0 where
  pub wrote : Wrote old to (plan_text depth p) new r.to
  pub read : r.at ≡ at + length (encode p)

abbrev pub Lines : List ℕ → ℕ → ℕ → List ℕ → ℕ → Next → List ℕ → Type 0
Lines plan at depth old to r new = (p : Plan) → Shows plan at p → Lined plan at depth old to r new p
