-- `write` meets its contract: the records of the lines so far were written, and those of the rest are still to come.
use Rattle.std.proofs.Common.{◌≡◌, List, ◌++◌, ℕ, ◌+◌, ◌*◌, ◌≤◌, length}
use Rattle.print_room.specs.Wrote.{Wrote}
use Rattle.sheet_words.specs.Words.{split, newline}
use Rattle.station_text.specs.Meaning.{lines_bytes}
use Rattle.station_text.proofs.text.write.Given as goal

abbrev pub invariant-loop-line : goal.invariant-loop-line
invariant-loop-line l = (l.to + 2 * length l.rest ≤ 4194304)
    × ((done : List ℕ) × Wrote l.initial.room 0 done l.room l.to × (done ++ lines_bytes (split newline l.rest) ≡ lines_bytes (split newline l.text)))

abbrev pub decreases-loop-line : goal.decreases-loop-line
decreases-loop-line l = length l.rest
