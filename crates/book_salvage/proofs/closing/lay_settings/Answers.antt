-- `lay_settings` meets its contract: after i turns the blocks of i settings stand in the room.
use mathlib.Core.Path.{refl}
use Prim.Native.Nat.{◌+◌, ◌*◌}
use native.Mathlib.Omega.{arith}
use Rattle.book_sound.specs.Sound.{in_order}
use Rattle.book_sound.proofs.Laid.{lay_on}
use Rattle.book_salvage.specs.Salvaged.{setting_after}
use Rattle.book_salvage.proofs.LaidLaws.{length-after}
use Rattle.book_salvage.proofs.closing.lay_settings.Goals as goal

pub loop-i-init : goal.loop-i-init
unfolding in_order
loop-i-init c = refl

pub loop-i-preserved : goal.loop-i-preserved
loop-i-preserved c =
    let r = c.loop-i in
    let a = c.args in
    lay_on (setting_after a.book.now a.marks) 512 a.room.now r.room _ 512 (512 * (1 + r.i)) r.i
    (λ k h. length-after a.book.now a.marks k (omega (arith, c.requires, c.loop-i-test))) (omega arith) r.invariant c.lay_setting.ensures
