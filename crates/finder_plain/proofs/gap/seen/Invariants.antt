-- `seen` meets its contract: a value that was marked stays marked.
use Rattle.finder_plain.specs.Gaps.{SeenBelow}
use Rattle.finder_plain.proofs.gap.seen.Given as goal

abbrev pub invariant-loop-entry : goal.invariant-loop-entry
invariant-loop-entry l = SeenBelow l.entry-items l.entry-index l.found
