-- `knowledge_acts::Act::of_byte` meets its contract: by the tests of the byte.
use mathlib.Core.Path.{ap}
use native.Mathlib.Omega.{arith}
use borrow.Author.Tests.{lt-ltb, le-leb, lt-leb}
use Rattle.std.proofs.Common.{Some}
use Rattle.knowledge_acts.specs.Acts.{act_of}
use Rattle.knowledge_acts.proofs.act.Act.of_byte.Goals as goal
use Rattle.knowledge_acts.proofs.act.Act.of_byte.Goals.{then-byte-eq0-via-then-byte-eq0, then-byte-eq0-via-else-byte-eq0+then-byte-gt-LAST}

pub returns-then-byte-eq0 : goal.returns-then-byte-eq0
unfolding act_of
returns-then-byte-eq0 c = elim c.then-byte-eq0.branch [
  | then-byte-eq0-via-then-byte-eq0 w ↦ rw w.if-byte-eq0.true
  | then-byte-eq0-via-else-byte-eq0+then-byte-gt-LAST w ↦ rw (lt-ltb 0 c.args.byte (omega arith), lt-leb _ 168 w.if-byte-gt-LAST.true)
]

pub returns : goal.returns
unfolding act_of
returns c = rw (lt-ltb 0 c.args.byte (omega arith), le-leb _ 168 c.if-byte-gt-LAST.false) (ap Some c.of_kind.ensures)
