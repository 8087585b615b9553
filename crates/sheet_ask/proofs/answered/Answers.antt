-- `answered` meets its contract: what the finder answered is printed, and it refuses 13 alone.
use Rattle.std.proofs.Common.{ℕ}
use lib.ListN.{length-replicate}
use Rattle.sheet_ask.specs.Inner.{learn_in}
use Rattle.sheet_ask.proofs.FoundLaws.{found-readable, found-told}
use Rattle.sheet_ask.proofs.answered.Goals as goal

pub tell-requires : goal.tell-requires
unfolding learn_in
tell-requires c = found-readable c.requires.1.2 _ _ _ _ _ (rw c.goal.ensures at c.find-answer.ensures)

pub returns : goal.returns
unfolding learn_in
returns c = λ n m v. found-told v _ _ _ _ _ (rw c.goal.ensures at c.find-answer.ensures) _ _ _ (length-replicate {A = ℕ} 32640 0) c.tell.ensures
