-- `bare` meets its contract: a word with `~` in front is the word behind it.
use Rattle.std.proofs.Common.{arith}
use Rattle.std.proofs.lemmas.Grind.{common_steps}
use Rattle.sheet_words.proofs.NameLaws.{bare_behind, bare_whole, bare_empty}
use Rattle.sheet_words.proofs.names.bare.Goals as goal

pub returns-in-126 : goal.returns-in-126
returns-in-126 c = grind (arith, common_steps, bare_behind)

pub returns-in_default : goal.returns-in_default
returns-in_default c = bare_empty c.args.word.now c.in_default.len_below

pub returns-in_default-2 : goal.returns-in_default-2
returns-in_default-2 c = grind (arith, common_steps, bare_whole)
