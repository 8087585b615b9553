-- `stray_line` meets its contract: the lines so far may stand there, so the first stray line is the first of the rest.
use Rattle.std.proofs.Common.{◌≡◌, ◌+◌, ◌≤◌, length}
use Rattle.sheet_words.specs.Words.{split, newline}
use Rattle.station_text.specs.Meaning.{stray_line}
use Rattle.station_text.proofs.text.stray_line.Given as goal

abbrev pub invariant-loop-line : goal.invariant-loop-line
invariant-loop-line l = (l.number + length l.rest ≤ 2097153) × (stray_line l.number (split newline l.rest) ≡ stray_line 1 (split newline l.text))

abbrev pub decreases-loop-line : goal.decreases-loop-line
decreases-loop-line l = length l.rest
