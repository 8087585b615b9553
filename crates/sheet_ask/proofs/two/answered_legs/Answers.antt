-- `answered_legs` meets its contract: what the finder answered is printed, and every plan fits its room.
use Prim.Native.Nat.{ℕ}
use lib.ListN.{length-replicate}
use Rattle.sheet_ask.proofs.TwoLaws.{two-readable, two-told}
use Rattle.sheet_ask.proofs.two.answered_legs.Goals as goal

pub tell-requires : goal.tell-requires
tell-requires c = two-readable c.requires _ _ _ _ c.find_both-answer.ensures

pub returns : goal.returns
returns c = two-told c.requires _ _ _ _ c.find_both-answer.ensures _ _ _ (length-replicate {A = ℕ} 32640 0) c.tell.ensures
