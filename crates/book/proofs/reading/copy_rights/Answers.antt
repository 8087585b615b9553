-- `book::reading::copy_rights` meets its contract: after i turns the tables of i settings stand in the room.
use mathlib.Core.Path.{refl}
use native.Mathlib.Omega.{arith}
use Rattle.book_sound.specs.Sound.{in_order, rights_of}
use Rattle.book.proofs.WriteLaws.{rights_step}
use Rattle.book.proofs.reading.copy_rights.Goals as goal

pub loop-i-init : goal.loop-i-init
unfolding rights_of in_order
loop-i-init c = refl

pub loop-i-preserved : goal.loop-i-preserved
loop-i-preserved c =
    rights_step c.args.book.now c.args.room.now c.loop-i.room _ c.loop-i.i (omega (arith, c.requires, c.loop-i-test)) c.loop-i.invariant c.copy.ensures
