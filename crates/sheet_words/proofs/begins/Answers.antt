-- `begins` meets its contract: `starts_with` compares byte by byte.
use Rattle.std.proofs.Common.{◌∙◌}
use Rattle.sheet_words.proofs.Fronts.{begins_by_bytes}
use Rattle.sheet_words.proofs.begins.Goals as goal

pub returns : goal.returns
returns c = c.starts_with.ensures.value ∙ begins_by_bytes c.args.word.now c.args.line.now
