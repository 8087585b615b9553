-- `book::writing::write_settings` meets its contract: after i turns the blocks of i settings stand in the room.
use mathlib.Core.Path.{◌≡◌}
use lib.Seq.{sets}
use Rattle.book.specs.Written.{setting_blocks}
use Rattle.book.proofs.writing.write_settings.Given as goal

abbrev pub invariant-loop-i : goal.invariant-loop-i
invariant-loop-i l = l.room ≡ sets l.initial.room 512 (setting_blocks l.rights l.i)
