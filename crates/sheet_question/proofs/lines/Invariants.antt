-- `lines` meets its contract: what is left is what was to be read from the start.
use Rattle.std.proofs.Common.{◌≡◌, ◌+◌, ◌≤◌, length}
use Rattle.sheet_words.specs.Words.{split, newline}
use Rattle.sheet_question.specs.Asked.{Asked}
use Rattle.sheet_question.specs.Desk.{AskedOnDesk}
use Rattle.sheet_question.specs.Question.{asked_from}
use Rattle.sheet_question.proofs.lines.Given as goal

abbrev pub invariant-loop-line : goal.invariant-loop-line
invariant-loop-line l = record {
  counted : l.number + length l.rest ≤ l.first + length l.text;
  read : (b : Asked) → AskedOnDesk l.settings b l.initial.desk → (a : Asked) × AskedOnDesk l.settings a l.desk
      × (asked_from l.passes l.settings l.posts l.number l.due a (split newline l.rest) ≡ asked_from l.passes l.settings l.posts l.first l.initial.due b (split newline l.text));
}

abbrev pub decreases-loop-line : goal.decreases-loop-line
decreases-loop-line l = length l.rest
