-- `Truths::byte` meets its contract: its word, then the shift and the remainder.
use mathlib.Core.Path.{ap}
use Prim.Native.Nat.{ℕ, ◌*◌, ◌/◌, ◌%◌, ◌^◌}
use Rattle.formula_table.specs.Two.{words_byte}
use Rattle.formula_table.proofs.Truths.byte.Goals as goal

pub returns : goal.returns
unfolding words_byte
returns c = ap (λ (x : ℕ). x / 2 ^ (8 * (c.args.j % 8)) % 256) c.word-word.ensures
