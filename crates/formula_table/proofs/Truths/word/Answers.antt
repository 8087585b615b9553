-- `Truths::word` meets its contract: the low word holds bytes 0 to 7.
use borrow.Author.Tests.{lt-ltb, le-ltb}
use Rattle.formula_table.proofs.Truths.word.Goals as goal

pub returns-then-j-lt-WORD : goal.returns-then-j-lt-WORD
returns-then-j-lt-WORD c = rw (lt-ltb c.args.j 8 c.if-j-lt-WORD.true)

pub returns : goal.returns
returns c = rw (le-ltb c.args.j 8 c.if-j-lt-WORD.false)
