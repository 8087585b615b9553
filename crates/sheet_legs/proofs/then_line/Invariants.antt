-- `then_line` meets its contract: no line before what is left is `then`, and the text before it is those lines.
use Rattle.std.proofs.Common.{◌≡◌, ◌+◌, ◌≤◌, ℕ, List, length}
use Rattle.sheet_legs.proofs.CutLaws.{Before}
use Rattle.sheet_legs.proofs.then_line.Given as goal

abbrev pub invariant-loop-line : goal.invariant-loop-line
invariant-loop-line l = record {
  shorter : length l.rest ≤ length l.text;
  counted : l.number + length l.rest ≤ length l.text + 1;
  before : (lines : List (List ℕ)) × (length lines + 1 ≡ l.number) × Before l.text l.rest lines;
}

abbrev pub decreases-loop-line : goal.decreases-loop-line
decreases-loop-line l = length l.rest
