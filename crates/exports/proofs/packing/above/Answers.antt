-- `above` meets its contract: one more, where there is one.
use mathlib.Core.Path.{subst}
use Prim.Native.Nat.{ℕ, ◌<◌}
use native.Mathlib.Omega.{arith}
use Rattle.std.specs.Prelude.{Option}
use Rattle.refusal.specs.Refusals.{and_one}
use Rattle.exports.proofs.packing.above.Goals as goal

pub overflow_add-result : goal.overflow_add-result
overflow_add-result c = let h = subst (λ (o : Option ℕ). and_one o < 256) c.in-Some.is c.requires in omega (arith, h)

pub returns-in-Some : goal.returns-in-Some
returns-in-Some c = rw c.in-Some.is (omega arith)
