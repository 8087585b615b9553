-- `piece_end` meets its contract: the piece that begins at i ends where the one that begins at `at` does.
use mathlib.Core.Path.{◌≡◌}
use Rattle.sheet_words.specs.Words.{piece_end}
use Rattle.sheet_words.proofs.piece_end.Given as goal

abbrev pub invariant-loop-i : goal.invariant-loop-i
invariant-loop-i l = piece_end l.text l.i l.mark ≡ piece_end l.text l.at l.mark
