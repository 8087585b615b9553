-- `close` meets its contract: 508 zero bytes and their check are the closed block.
use Rattle.book_salvage.proofs.LaidLaws.{close-on}
use Rattle.book_salvage.proofs.closing.close.Goals as goal

pub returns : goal.returns
returns c = close-on c.args.room.now _ _ c.args.at c.requires c.zeros.ensures c.seal.ensures
