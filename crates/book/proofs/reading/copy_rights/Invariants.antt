-- `book::reading::copy_rights` meets its contract: after i turns the tables of i settings stand in the room.
use mathlib.Core.Path.{◌≡◌}
use lib.Seq.{sets}
use Rattle.book_sound.specs.Sound.{rights_of}
use Rattle.book.proofs.reading.copy_rights.Given as goal

abbrev pub invariant-loop-i : goal.invariant-loop-i
invariant-loop-i l = l.room ≡ sets l.initial.room 0 (rights_of l.book l.i)
