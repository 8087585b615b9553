-- `write` meets its contract: the bytes of the lines so far were written, and those of the rest are still to come.
use Rattle.std.proofs.Common.{◌≡◌, List, ◌++◌, ℕ, ◌+◌, ◌≤◌, length}
use Rattle.print_room.specs.Wrote.{Wrote}
use Rattle.sheet_words.specs.Words.{split, newline}
use Rattle.plancheck_text.specs.Meaning.{line_bytes}
use Rattle.plancheck_text.proofs.write.Given as goal

abbrev pub invariant-loop-line : goal.invariant-loop-line
invariant-loop-line l = (l.to + length l.rest ≤ 524288)
    × ((done : List ℕ) × Wrote l.initial.room 0 done l.room l.to × (done ++ line_bytes (split newline l.rest) ≡ line_bytes (split newline l.text)))

abbrev pub decreases-loop-line : goal.decreases-loop-line
decreases-loop-line l = length l.rest
