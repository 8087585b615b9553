-- `Truths::or` meets its contract: a bit of `|` is that of the two bits.
use Rattle.formula_table.proofs.TwoWords.{or_holds}
use Rattle.formula_table.proofs.Truths.or.Goals as goal

pub returns : goal.returns
returns c =
    let args = c.args in
    or_holds args.self args.other
