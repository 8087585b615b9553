-- `marks_of` meets its contract: the words so far are names and are marked, and the rest is still to come.
use Rattle.std.proofs.Common.{◌≡◌, ◌≤◌, length, drop}
use Rattle.sheet_words.specs.Words.{split, space, all_names}
use Rattle.sheet_words.proofs.NameLaws.{Marks_to}
use Rattle.sheet_words.proofs.names.marks_of.Given as goal

abbrev pub invariant-loop-word : goal.invariant-loop-word
invariant-loop-word l =
    (l.count ≤ 8)
    × (all_names l.signed l.first l.count (drop (length l.yielded) (split space l.words)) ≡ all_names l.signed l.first l.count (split space l.words))
    × Marks_to l.first (split space l.words) (drop (length l.yielded) (split space l.words)) l.marks
