-- `copy_run` meets its contract: after i turns the first i bytes of the part stand in the room.
use mathlib.Core.Path.{refl}
use lib.ListN.{take, drop, length-set}
use Rattle.ground.proofs.Lists.{write_step, write_done, get_d_part, length_part_there}
use Rattle.ground.proofs.bytes.copy_run.Goals as goal

pub loop-i-init : goal.loop-i-init
loop-i-init c = (refl, refl)

pub loop-i-preserved : goal.loop-i-preserved
loop-i-preserved c =
    let a = c.args in
    let r = c.loop-i in (
      simp length-set r.invariant.0,
      write_step _ r.room (take a.count (drop a.from a.source.now)) a.to r.i _
          (rw (length_part_there a.source.now a.from a.count c.requires.0) c.loop-i-test.true)
          (get_d_part a.source.now a.from a.count r.i c.loop-i-test.true)
          r.invariant.1,
    )

pub returns : goal.returns
returns c =
    let a = c.args in
    let r = c.loop-i in
    write_done _ r.room (take a.count (drop a.from a.source.now)) a.to r.i
    (rw (length_part_there a.source.now a.from a.count c.requires.0) c.loop-i-test.false)
    r.invariant.1
