-- `refuse` meets its contract: the refusal's numbers are printed.
use Rattle.sheet_ask.proofs.FoundLaws.{numbers-printed}
use Rattle.sheet_ask.proofs.tell.refuse.Goals as goal

pub returns : goal.returns
returns c = numbers-printed c.args.why c.numbers-numbers.ensures c.refused.ensures
