-- `is_past` meets its contract: of a letter, its distance from `a`.
use mathlib.Core.Path.{sym, ◌∙◌}
use Rattle.formula_grammar.proofs.ScanLaws.{letter-low, past-letter, past-none}
use Rattle.formula_grammar.proofs.signs.is_past.Goals as goal

pub overflow_sub-result : goal.overflow_sub-result
overflow_sub-result c = letter-low c.args.c (sym c.if-is_letter.true ∙ c.is_letter.ensures)

pub returns-then-is_letter : goal.returns-then-is_letter
returns-then-is_letter c =
    past-letter c.args.n c.args.c (sym c.is_letter.ensures ∙ c.if-is_letter.true)
    (letter-low c.args.c (sym c.if-is_letter.true ∙ c.is_letter.ensures))

pub returns-else-is_letter : goal.returns-else-is_letter
returns-else-is_letter c = c.if-is_letter.false ∙ past-none c.args.n c.args.c (sym c.is_letter.ensures ∙ c.if-is_letter.false)
