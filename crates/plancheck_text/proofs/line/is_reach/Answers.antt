-- `is_reach` meets its contract: the word, and then a number.
use Rattle.std.proofs.Common.{sym, ◌∙◌}
use Rattle.ground.specs.Text.{bytes}
use Rattle.sheet_words.proofs.Fronts.{begins-length}
use Rattle.plancheck_text.proofs.line.is_reach.Goals as goal

pub slice_bounds-is_number-count : goal.slice_bounds-is_number-count
slice_bounds-is_number-count c = begins-length (bytes "reach ") c.args.line.now (sym c.begins.ensures ∙ c.if-begins.true)

pub slice_bounds-is_number-start : goal.slice_bounds-is_number-start
slice_bounds-is_number-start c = begins-length (bytes "reach ") c.args.line.now (sym c.begins.ensures ∙ c.if-begins.true)
