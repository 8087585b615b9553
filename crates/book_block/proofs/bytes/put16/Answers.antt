-- `book_block::bytes::put16` meets its contract: the two bytes of the number are the run.
use Rattle.std.proofs.Common.{ℕ, [], ◌∷◌, ◌%◌, ap, arith, ◌∙◌}
use Rattle.ground.proofs.Lists.{put_sets}
use Rattle.book_block.specs.Sealed.{bytes16}
use Rattle.book_block.proofs.bytes.put16.Goals as goal

pub returns : goal.returns
unfolding bytes16
returns c =
    let x = c.args.number in
    put_sets c.args.to _ c.args.room.now _ (bytes16 x)
    (c.copy_from_slice.ensures.after ∙ c.to_le_bytes.ensures ∙ ap (λ (y : ℕ). (x % 256) ∷ y ∷ []) (omega (arith, c.ranges.number.fits)))
    (omega arith) (omega arith)
