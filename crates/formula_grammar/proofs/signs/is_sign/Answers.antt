-- `is_sign` meets its contract: the list of the signs.
use mathlib.Core.Path.{◌∙◌}
use Rattle.formula_grammar.proofs.ScanLaws.{signs}
use Rattle.formula_grammar.proofs.signs.is_sign.Goals as goal

pub returns : goal.returns
returns c = c.contains.ensures.value ∙ signs c.args.c
