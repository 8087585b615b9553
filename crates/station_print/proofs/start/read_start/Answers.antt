-- `read_start` meets its contract, by the marks of its words.
use Rattle.std.proofs.Common.{sym, ◌∙◌}
use Rattle.station_print.specs.Start.{start_words}
use Rattle.station_print.proofs.StartLaws.{stray_nothing, twice_nothing, some_nothing, all-settings}
use Rattle.station_print.proofs.start.read_start.Goals as goal

pub returns-in_err-marks : goal.returns-in_err-marks
returns-in_err-marks c =
    let words = start_words c.args.start.now in
    rw c.from_residual.ensures (stray_nothing c.args.n words _ c.marks_of.ensures c.in_err-marks.was)

pub returns-then-marks : goal.returns-then-marks
returns-then-marks c =
    elim c.then-marks.branch [
      | goal.then-marks-via-then-marks w ↦ twice_nothing c.args.n (start_words c.args.start.now) _ c.marks_of.ensures _ c.in_ok-marks.was w.if-marks.true
      | goal.then-marks-via-else-marks+then-not-all_named w ↦
          some_nothing c.args.n (start_words c.args.start.now) _ c.marks_of.ensures _ c.in_ok-marks.was w.if-marks.false
          (sym w.all_named.ensures ∙ w.if-not-all_named.true)
    ]

pub returns : goal.returns
returns c =
    all-settings c.args.n (start_words c.args.start.now) _ c.marks_of.ensures _ c.in_ok-marks.was c.if-marks.false
    (sym c.all_named.ensures ∙ c.if-not-all_named.false)
