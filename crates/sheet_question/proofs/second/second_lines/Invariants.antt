-- `second_lines` meets its contract: what is left is what was to be read from the start, while lines are passed over.
use Rattle.std.proofs.Common.{◌≡◌, ◌+◌, ◌≤◌, length}
use Rattle.sheet_words.specs.Words.{split, newline}
use Rattle.sheet_question.specs.Second.{second_from}
use Rattle.sheet_question.proofs.second.second_lines.Given as goal

abbrev pub invariant-loop-line : goal.invariant-loop-line
invariant-loop-line l = record {
  counted : l.number + length l.rest ≤ l.before + 1 + length l.text;
  shorter : length l.rest ≤ length l.text;
  read : second_from l.settings l.posts l.number (split newline l.rest) ≡ second_from l.settings l.posts (l.before + 1) (split newline l.text);
}

abbrev pub decreases-loop-line : goal.decreases-loop-line
decreases-loop-line l = length l.rest
