-- `is_letter` meets its contract: the two bounds, one after the other.
use mathlib.Core.Path.{◌∙◌}
use Rattle.formula_grammar.proofs.ScanLaws.{no_letter, letter-high}
use borrow.Author.Tests.{lt-leb}
use Rattle.formula_grammar.proofs.signs.is_letter.Goals as goal

pub returns-then-c-ge97 : goal.returns-then-c-ge97
returns-then-c-ge97 c = letter-high c.args.c c.if-c-ge97.true

pub returns-else-c-ge97 : goal.returns-else-c-ge97
returns-else-c-ge97 c = lt-leb 97 c.args.c c.if-c-ge97.false ∙ no_letter c.args.c c.if-c-ge97.false
