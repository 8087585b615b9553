-- `Truths::bytes` meets its contract. The loop has stored the first j bytes.
use Prim.Native.Nat.{ℕ, ◌<◌}
use mathlib.Core.Path.{◌≡◌}
use lib.ListN.{length, get_or}
use Rattle.formula_table.specs.Two.{words_byte}
use Rattle.formula_table.proofs.Truths.bytes.Given as goal

abbrev pub invariant-loop-j : goal.invariant-loop-j
invariant-loop-j l = (length l.table ≡ 16) × ((k : ℕ) → k < l.j → get_or l.table k 0 ≡ words_byte l.self k)
