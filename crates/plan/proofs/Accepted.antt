-- What is written is accepted, and no accepted plan is lower than the rank: both from the check's yes being a working plan's bytes.
use mathlib.Core.Path.{◌≡◌, refl}
use mathlib.Core.List.{List}
use Prim.Native.Nat.{ℕ, suc, ◌*◌, ◌^◌, ◌≤◌, ◌<◌}
use native.Mathlib.Omega.{arith}
use lib.ListN.{length}
use Rattle.plan.specs.Plans.{System, Lawful, Plan, Works, height}
use Rattle.plan.specs.Ranks.{IsRank, Written}
use Rattle.plan.specs.Bytes.{encode}
use Rattle.plan.specs.Check.{accepted, check}
use Rattle.plan.specs.Pending.{unknowns}
use Rattle.plan.proofs.Ranks.{rank-least}
use Rattle.plan.proofs.Size.{works_permitted, size, size-most}
use Rattle.plan.proofs.Written.{written_works, written-height}
use Rattle.plan.proofs.Check.{check_exact}

module _ {n : ℕ} {S : System} (law : Lawful n S) (few : n ≤ 7) (k : ℕ) where
  pub written-accepted : (p : Plan) → Written S k p → check S k (encode p) ≡ accepted
  written-accepted p w = (check_exact law few k (encode p)).1 (p, written_works S p k w, refl)

  pub written-size : (p : Plan) (r : ℕ) → Written S k p → IsRank S k r → length (encode p) ≤ 2 ^ unknowns n k * suc r
  written-size p r w a = rw (written-height S p k r w a) at (size law p k (works_permitted S p k (written_works S p k w)))

  -- "It never has more than 32,640 bytes."
  pub written-most : (p : Plan) (r : ℕ) → Written S k p → IsRank S k r → r < 255 → length (encode p) ≤ 32640
  written-most p r w a l =
      size-most law p k few (works_permitted S p k (written_works S p k w)) (omega (arith, written-height S p k r w a))

  -- the plan whose bytes were accepted: the only one, it works, and it is no lower than the rank
  pub accepted-plan : (bytes : List ℕ) (r : ℕ) → IsRank S k r → check S k bytes ≡ accepted
      → (p : Plan) × Works S k p × (bytes ≡ encode p) × (r ≤ height p)
  accepted-plan bytes r a e =
      let c = (check_exact law few k bytes).0 e in
      (c.0, c.1, c.2, rank-least S k a c.0 c.1)
