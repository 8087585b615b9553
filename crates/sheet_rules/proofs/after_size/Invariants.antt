-- `after_size` meets its contract: what is left is what was to be read from the start.
use Rattle.std.proofs.Common.{◌≡◌, ◌+◌, ◌≤◌, suc, length}
use Rattle.sheet_words.specs.Words.{split, newline}
use Rattle.sheet_rules.specs.Rules.{Rules}
use Rattle.sheet_rules.specs.Desk.{OnDesk}
use Rattle.sheet_rules.specs.Reading.{rules_from}
use Rattle.sheet_rules.specs.Turns.{Rest}
use Rattle.sheet_rules.proofs.after_size.Given as goal

abbrev pub invariant-loop-line : goal.invariant-loop-line
invariant-loop-line l = record {
  left : Rest l.text l.rest;
  least : 1 ≤ l.number;
  counted : l.number + length l.rest ≤ suc (length l.text);
  read : (rules : Rules) → OnDesk rules l.initial.desk
      → (v : Rules) × OnDesk v l.desk × (rules_from l.passes l.number v (split newline l.rest) ≡ rules_from l.passes l.first rules (split newline l.behind));
}

abbrev pub decreases-loop-line : goal.decreases-loop-line
decreases-loop-line l = length l.rest
