-- `book_sound::first_wrong` meets its contract: the blocks before k have right checks.
use Prim.Native.Nat.{ℕ, ◌<◌}
use Rattle.book_block.specs.Check.{block, RightCheck}
use Rattle.book_sound.proofs.first_wrong.Given as goal

abbrev pub invariant-loop-k : goal.invariant-loop-k
invariant-loop-k l = (j : ℕ) → j < l.k → RightCheck (block l.book j)
