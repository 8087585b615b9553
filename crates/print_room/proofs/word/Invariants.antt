-- `word` meets its contract. The loop's invariant: the bytes of the text so far were written.
use lib.ListN.{take}
use Rattle.print_room.specs.Wrote.{Wrote}
use Rattle.print_room.proofs.word.Given as goal

abbrev pub invariant-loop-byte : goal.invariant-loop-byte
invariant-loop-byte l = Wrote l.initial.out l.to (take l.byte-index l.text) l.out l.at
