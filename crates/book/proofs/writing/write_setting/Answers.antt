-- `book::writing::write_setting` meets its contract: the tables, the zeros and the check are one run of 512 bytes.
use native.Mathlib.Omega.{arith}
use mathlib.Core.Path.{◌≡◌}
use mathlib.Core.List.{◌++◌}
use Prim.Native.Nat.{◌+◌, ◌*◌}
use lib.ListN.{length, length-append, length-replicate, replicate}
use Rattle.book_sound.specs.Sound.{tables_of}
use Rattle.book_block.specs.Sealed.{setting_block}
use Rattle.book_block.proofs.SealLaws.{run_on, seal_on}
use Rattle.book_sound.proofs.RightsLaws.{length-tables}
use Rattle.book.proofs.writing.write_setting.Goals as goal

pub returns : goal.returns
unfolding setting_block tables_of
returns c =
    let a = c.args in
    let at = 512 * (1 + a.i) in
    let tables = tables_of a.rights.now a.i in
    let e : length (tables_of a.rights.now a.i) ≡ 256 = length-tables a.rights.now a.i c.requires.1 in
    seal_on a.room.now _ _ (tables ++ replicate 252 0) at (simp (length-append, length-replicate) (omega arith)) (omega (arith, c.requires))
    (run_on a.room.now _ _ tables (replicate 252 0) at (at + 256) (omega arith) c.copy.ensures c.zeros.ensures)
    c.seal.ensures
