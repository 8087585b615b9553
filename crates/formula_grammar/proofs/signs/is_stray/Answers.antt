-- `is_stray` meets its contract: no letter and no sign.
use mathlib.Core.Path.{sym, ap, ◌∙◌}
use mathlib.Core.Bool.{not}
use Rattle.formula_grammar.proofs.ScanLaws.{letter-not_stray, sign_not_stray}
use Rattle.formula_grammar.proofs.signs.is_stray.Goals as goal

pub returns-then-not-is_letter : goal.returns-then-not-is_letter
returns-then-not-is_letter c = ap not c.is_sign.ensures ∙ sign_not_stray c.args.c (sym c.is_letter.ensures ∙ c.if-not-is_letter.true)

pub returns-else-not-is_letter : goal.returns-else-not-is_letter
returns-else-not-is_letter c = ap not c.if-not-is_letter.false ∙ letter-not_stray c.args.c (sym c.is_letter.ensures ∙ c.if-not-is_letter.false)
