-- `of_answer` meets its contract: one way for each first word.
use mathlib.Core.Path.{sym, ◌∙◌}
use Rattle.program_outcome.proofs.Answers.{by_reach, by_cannot, by_neither}
use Rattle.program_outcome.proofs.of_answer.Goals as goal

pub returns-then-begins : goal.returns-then-begins
returns-then-begins c = by_reach c.args.text.now (sym c.begins.ensures ∙ c.if-begins.true)

pub returns-then-begins-2 : goal.returns-then-begins-2
returns-then-begins-2 c = by_cannot c.args.text.now (sym c.begins.ensures ∙ c.if-begins.false) (sym c.begins-2.ensures ∙ c.if-begins-2.true)

pub returns : goal.returns
returns c = by_neither c.args.text.now (sym c.begins.ensures ∙ c.if-begins.false) (sym c.begins-2.ensures ∙ c.if-begins-2.false)
