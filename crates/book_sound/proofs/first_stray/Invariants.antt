-- `book_sound::first_stray` meets its contract: the settings before i have blocks as they must be.
use Prim.Native.Nat.{ℕ, ◌+◌, ◌<◌}
use Rattle.book_block.specs.Check.{block}
use Rattle.book_block.specs.Kinds.{SettingBlock}
use Rattle.book_sound.proofs.first_stray.Given as goal

abbrev pub invariant-loop-i : goal.invariant-loop-i
invariant-loop-i l = (k : ℕ) → k < l.i → SettingBlock l.n l.m (block l.book (1 + k))
