-- `line_of` meets its contract: what is left to find in the rest is what is to be found in all.
use Rattle.std.proofs.Common.{◌≡◌, ◌+◌, ◌≤◌, length}
use Rattle.sheet_words.specs.Words.{split, newline}
use Rattle.station_text.specs.Meaning.{line_of}
use Rattle.station_text.proofs.text.line_of.Given as goal

abbrev pub invariant-loop-line : goal.invariant-loop-line
invariant-loop-line l = (l.number + length l.rest ≤ length l.text + 1) × (line_of l.number l.left (split newline l.rest) ≡ line_of 1 l.index (split newline l.text))

abbrev pub decreases-loop-line : goal.decreases-loop-line
decreases-loop-line l = length l.rest
