-- `replay` meets its contract: the book's refusals, then 26, then the records.
use Rattle.std.proofs.Common.{arith}
use Rattle.ground.proofs.Answers.{passed_up}
use Rattle.station.specs.Replay.{Replays}
use Rattle.station.proofs.ReplayLaws.{valuations_of, book_refused, shift_refused, replays}
use Rattle.station.proofs.shift.replay.Goals as goal

pub returns-in_err-settings : goal.returns-in_err-settings
returns-in_err-settings c =
    let a = c.args in
    passed_up (λ r. Replays a.book.now a.start a.shift.now r) _ c.from_residual.ensures.1 (book_refused a.book.now a.start a.shift.now c.in_err-settings.ensures)

pub returns-then-shift-ne0 : goal.returns-then-shift-ne0
returns-then-shift-ne0 c =
    let a = c.args in
    shift_refused a.book.now a.start a.shift.now c.in_ok-settings.ensures
    (elim c.then-shift-ne0.branch [
      | goal.then-shift-ne0-via-then-shift-ne0 w ↦ (λ fits. w.if-shift-ne0.true fits.even)
      | goal.then-shift-ne0-via-else-shift-ne0+then-valuations-start w ↦
          (λ fits. omega (arith, valuations_of c.in_ok-settings.ensures w.valuations.ensures, w.if-valuations-start.true, fits.below))
    ])

pub returns : goal.returns
returns c =
    let a = c.args in
    let size = valuations_of c.in_ok-settings.ensures c.valuations.ensures in
    replays a.book.now a.start a.shift.now c.in_ok-settings.ensures
    (record { even = c.if-shift-ne0.false; below = omega (arith, size, c.if-valuations-start.false) })
    c.play.result c.play.ensures
