-- `finder_ranks::apart::now_of` meets its contract: the packed number, by a computed test at the seven digits.
use Rattle.finder_ranks.proofs.ApartLaws.{packed_now}
use Rattle.finder_ranks.proofs.apart.now_of.Goals as goal

pub returns : goal.returns
returns c = packed_now c.args.digit c.requires
