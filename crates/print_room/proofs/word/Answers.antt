-- `word` meets its contract. The loop's invariant: the bytes of the text so far were written.
use Rattle.print_room.proofs.Writing.{wrote-more}
use Rattle.print_room.proofs.word.Goals as goal

pub loop-byte-preserved : goal.loop-byte-preserved
loop-byte-preserved c = wrote-more _ _ c.loop-byte.invariant c.loop-byte-test.true c.put-at.ensures
