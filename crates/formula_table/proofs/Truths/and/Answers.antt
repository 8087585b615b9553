-- `Truths::and` meets its contract: a bit of `&` is that of the two bits.
use Rattle.formula_table.proofs.TwoWords.{and_holds}
use Rattle.formula_table.proofs.Truths.and.Goals as goal

pub returns : goal.returns
returns c =
    let args = c.args in
    and_holds args.self args.other
