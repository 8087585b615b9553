-- `book::writing::write_settings` meets its contract: after i turns the blocks of i settings stand in the room.
use mathlib.Core.Path.{refl}
use native.Mathlib.Omega.{arith}
use Rattle.book_sound.specs.Sound.{in_order}
use Rattle.book.specs.Written.{setting_blocks}
use Rattle.book.proofs.WriteLaws.{settings-step}
use Rattle.book.proofs.writing.write_settings.Goals as goal

pub loop-i-init : goal.loop-i-init
unfolding setting_blocks in_order
loop-i-init c = refl

pub loop-i-preserved : goal.loop-i-preserved
loop-i-preserved c =
    settings-step c.args.rights.now c.args.room.now c.loop-i.room _ c.loop-i.i (omega (arith, c.requires, c.loop-i-test)) c.loop-i.invariant c.write_setting.ensures
