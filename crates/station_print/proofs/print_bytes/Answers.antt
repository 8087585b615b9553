-- `print_bytes` meets its contract: what the replay answers is told, and its text is printed.
use Rattle.std.proofs.Common.{Ok, Err}
use mathlib.Core.Path.{ap, subst, ◌∙◌}
use native.Mathlib.Omega.{arith}
use Rattle.refusal.specs.declared.Numbers.{Numbers}
use Rattle.station.specs.Replay.{Replays}
use Rattle.station.specs.declared.shift.Replayed.TheVariants.{Whole, Stopped}
use Rattle.print_room.proofs.Writing.{wrote_none, wrote_as}
use Rattle.station_print.specs.Printed.{stopped_text}
use Rattle.station_print.proofs.Lengths.{reached-length}
use Rattle.station_print.proofs.PrintLaws.{told-bytes, whole-count, stopped-next}
use Rattle.station_print.proofs.print_bytes.Goals as goal
use Rattle.station_print.proofs.print_bytes.Goals.{In-Ok-Whole, In-Ok-Stopped}

-- what the replay answered
whole : (c : In-Ok-Whole) → Replays c.args.book.now c.args.start c.args.bytes.now (Ok (Whole c.in-Ok-Whole.running))
whole c = subst (Replays c.args.book.now c.args.start c.args.bytes.now) (c.in-Ok-Whole.is ∙ ap Ok c.in-Ok-Whole.field-0-is) c.replay.ensures

stopped : (c : In-Ok-Stopped) → Replays c.args.book.now c.args.start c.args.bytes.now (Ok (Stopped c.in-Ok-Stopped.why c.in-Ok-Stopped.running))
stopped c = subst (Replays c.args.book.now c.args.start c.args.bytes.now) (c.in-Ok-Stopped.is ∙ ap Ok c.in-Ok-Stopped.field-0-is) c.replay.ensures

pub reached-requires : goal.reached-requires
reached-requires c =
    let a = c.args in
    let running = c.in-Ok-Whole.running in
    let done = whole-count a.book.now a.start a.shift.now a.bytes.now c.requires.1 running (whole (goal.at.reached-requires c).In-Ok-Whole) in
    (c.requires.0, record { below = omega (arith, reached-length a.n running c.requires.0 done) })

pub stopped-count-requires : goal.stopped-count-requires
stopped-count-requires c =
    let a = c.args in
    (c.requires.0, stopped-next a.book.now a.start a.shift.now a.bytes.now c.requires.1 _ _ (stopped (goal.at.stopped-count-requires c).In-Ok-Stopped))

pub returns-in-Ok-Whole : goal.returns-in-Ok-Whole
returns-in-Ok-Whole c = told-bytes (Ok (Whole _)) (whole (goal.at.returns-in-Ok-Whole c).In-Ok-Whole) c.reached.ensures

pub returns-in-Ok-Stopped : goal.returns-in-Ok-Stopped
returns-in-Ok-Stopped c =
    let a = c.args in
    told-bytes (Ok (Stopped _ _)) (stopped (goal.at.returns-in-Ok-Stopped c).In-Ok-Stopped)
    (wrote_as (ap (λ (x : Numbers). stopped_text a.n a.shift.now a.bytes.now x.number c.in-Ok-Stopped.running) c.numbers-numbers.ensures) c.stopped-count.ensures)

pub returns-in-Err : goal.returns-in-Err
returns-in-Err c = told-bytes (Err _) c.in-Err.ensures wrote_none
