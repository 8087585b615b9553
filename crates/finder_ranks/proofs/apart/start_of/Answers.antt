-- `finder_ranks::apart::start_of` meets its contract: the packed number, by a computed test at the seven digits.
use Rattle.finder_ranks.proofs.ApartLaws.{packed_start}
use Rattle.finder_ranks.proofs.apart.start_of.Goals as goal

pub returns : goal.returns
returns c = packed_start c.args.digit c.requires
