-- `lowest` meets its contract: the lowest bit stands where the zeros end.
use Rattle.finder.proofs.StepLaws.{lowest_set}
use Rattle.finder.proofs.steps.lowest.Goals as goal

pub returns : goal.returns
returns c = lowest_set c.args.posts c.requires c.ranges.posts.fits
