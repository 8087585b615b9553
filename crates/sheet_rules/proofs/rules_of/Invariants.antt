-- `rules_of` meets its contract: the length; the lines that are passed over, of which each leaves the rest to be read; and the size.
use Rattle.std.proofs.Common.{◌≡◌, ◌-◌, ◌≤◌, suc, length, drop}
use Rattle.sheet_words.specs.Words.{split, newline}
use Rattle.sheet_rules.specs.Reading.{size_from, rules_of}
use Rattle.sheet_rules.proofs.rules_of.Given as goal

abbrev pub invariant-loop-passes : goal.invariant-loop-passes
invariant-loop-passes l = record {
  within : l.at ≤ length l.text;
  least : 1 ≤ l.at_line;
  counted : l.at_line ≤ suc l.at;
  read : size_from l.passes l.most l.at_line (split newline (drop l.at l.text)) ≡ rules_of l.passes l.most l.text;
}

abbrev pub decreases-loop-passes : goal.decreases-loop-passes
decreases-loop-passes l = length l.text - l.at
