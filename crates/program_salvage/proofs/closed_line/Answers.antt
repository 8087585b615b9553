-- `closed_line` meets its contract: one line for no mark, and for any others three pieces one after the other.
use mathlib.Core.Path.{sym}
use native.Mathlib.Omega.{arith}
use Rattle.print_room.proofs.Writing.{wrote_then, wrote_as}
use Rattle.program_salvage.proofs.ClosedLaws.{names-length, text-none, text-some}
use Rattle.program_salvage.proofs.closed_line.Goals as goal

pub returns-then-marks-eq0 : goal.returns-then-marks-eq0
returns-then-marks-eq0 c = wrote_as (sym (text-none _ c.if-marks-eq0.true)) c.word.ensures

pub word-requires-2 : goal.word-requires-2
word-requires-2 c = record { below = omega (arith, c.word-to.ensures.next_place, c.names-to.ensures.next_place, names-length 7 c.args.marks) }

pub returns : goal.returns
returns c = wrote_as (sym (text-some _ c.if-marks-eq0.false)) (wrote_then c.word-to.ensures (wrote_then c.names-to.ensures c.word-2.ensures))
