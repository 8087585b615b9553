-- `book_block::sums::seal` meets its contract: two numbers of two bytes are a run of four, and the sums are those of the block.
use Rattle.std.proofs.Common.{◌+◌, ◌++◌, sym, ap, ◌∙◌, add_assoc, arith}
use lib.Seq.{sets}
use Rattle.book_block.specs.declared.sums.Sums.{Sums}
use Rattle.book_block.specs.Sealed.{bytes16, check_bytes}
use Rattle.book_block.proofs.SealLaws.{run_on, sealed-at, not-sealed}
use Rattle.book_block.proofs.sums.seal.Goals as goal

pub returns-then-room-lt-BLOCK : goal.returns-then-room-lt-BLOCK
returns-then-room-lt-BLOCK c = sym (not-sealed _ _ (omega arith))

pub returns : goal.returns
unfolding check_bytes bytes16
returns c =
    let sums = c.check_of-sums in
    let a = c.args in
    run_on a.room.now _ _ (bytes16 sums.result.s) (bytes16 sums.result.t) (a.at + 508) (a.at + 510)
    (add_assoc a.at 508 2) c.put16.ensures c.put16-2.ensures
    ∙ ap (λ (x : Sums). sets a.room.now (a.at + 508) (bytes16 x.s ++ bytes16 x.t)) sums.ensures
    ∙ sym (sealed-at a.room.now a.at (omega arith))
