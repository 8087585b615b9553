-- `is_false` meets its contract.
use mathlib.Core.Path.{ap}
use Prim.Native.Nat.{ℕ}
use lib.Dec.{eqb}
use Rattle.sheet_words.specs.Words.{is_false}
use Rattle.sheet_words.proofs.names.is_false.Goals as goal

pub returns : goal.returns
unfolding is_false
returns c = ap (λ (x : ℕ). eqb x 126) c.peek.ensures
