-- `book_block::stray::fits` meets its contract: a shift by k leaves nothing of a number below 2^k alone.
use Rattle.ground.proofs.HighBits.{shift_none, shift_some}
use Rattle.ground.proofs.Answers.{tells_zero}
use Rattle.book_block.proofs.stray.fits.Goals as goal

pub returns : goal.returns
returns c = tells_zero _ (shift_none _ _) (shift_some _ _)
