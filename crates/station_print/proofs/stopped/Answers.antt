-- `stopped` meets its contract: what was reached, then the line of the next record.
use mathlib.Core.Path.{ap₂}
use Prim.Native.Nat.{ℕ, ◌≤◌}
use native.Mathlib.Omega.{arith}
use Rattle.station.specs.Shift.{act_byte, seen_byte}
use Rattle.print_room.proofs.Writing.{wrote_then, wrote_as}
use Rattle.station_print.specs.Faults.{fault_text}
use Rattle.station_print.specs.Printed.{stopped_text}
use Rattle.station_print.proofs.Lengths.{reached-length, fault-length}
use Rattle.station_print.proofs.stopped.Goals as goal

pub reached-to-requires : goal.reached-to-requires
reached-to-requires c =
    let a = c.args in
    let next = c.requires.1 in (
      c.requires.0,
      record { below = omega (arith, reached-length a.n a.running c.requires.0 (omega (arith, next.more, next.readable.bytes_most))) },
    )

pub fault_line-requires : goal.fault_line-requires
fault_line-requires c =
    let a = c.args in
    let next = c.requires.1 in
    let early : a.running.count ≤ 1048576 = omega (arith, next.more, next.readable.bytes_most) in (
      c.requires.0,
      record {
        below
            = omega (
              arith,
              c.reached-to.ensures.next_place,
              reached-length a.n a.running c.requires.0 early,
              fault-length a.shift.now a.running.count c.peek-byte.result c.peek-seen.result a.number a.n a.running.present.0
                  next.readable.shift_most early (omega (arith, c.peek-byte.type_inv)) (omega (arith, c.peek-seen.type_inv)) c.requires.0,
            );
      },
    )

pub returns : goal.returns
unfolding stopped_text act_byte seen_byte
returns c =
    let a = c.args in
    wrote_then c.reached-to.ensures
    (wrote_as (ap₂ (λ (b s : ℕ). fault_text a.shift.now a.running.count b s a.number a.n a.running.present.0) c.peek-byte.ensures c.peek-seen.ensures)
    c.fault_line.ensures)
