-- `lay_settings` meets its contract: after i turns the blocks of i settings stand in the room.
use mathlib.Core.Path.{◌≡◌}
use lib.Seq.{sets}
use Rattle.book_sound.specs.Sound.{in_order}
use Rattle.book_salvage.specs.Salvaged.{setting_after}
use Rattle.book_salvage.proofs.closing.lay_settings.Given as goal

abbrev pub invariant-loop-i : goal.invariant-loop-i
invariant-loop-i l = l.room ≡ sets l.initial.room 512 (in_order (setting_after l.book l.marks) l.i)
