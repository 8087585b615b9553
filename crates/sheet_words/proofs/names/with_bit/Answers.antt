-- `with_bit` meets its contract, bit by bit.
use Rattle.sheet_words.proofs.NameLaws.{with_bit}
use Rattle.sheet_words.proofs.names.with_bit.Goals as goal

pub returns : goal.returns
returns c = λ j. with_bit c.args.byte c.args.i j c.requires
