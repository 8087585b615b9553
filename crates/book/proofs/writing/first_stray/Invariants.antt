-- `book::writing::first_stray` meets its contract: the settings before i have tables as they must be.
use Prim.Native.Nat.{ℕ, ◌<◌}
use Rattle.book_block.specs.Kinds.{Tables}
use Rattle.book_sound.specs.Sound.{tables_of}
use Rattle.book.proofs.writing.first_stray.Given as goal

abbrev pub invariant-loop-i : goal.invariant-loop-i
invariant-loop-i l = (k : ℕ) → k < l.i → Tables l.n l.m (tables_of l.rights k)
