-- `write` meets its contract: the records of the lines so far were written, and those of the rest are still to come.
use Rattle.std.proofs.Common.{List, ◌++◌, ℕ, arith, sym, ap, ◌∙◌}
use mathlib.Core.List.{append_assoc, append-nil}
use Rattle.print_room.proofs.Writing.{wrote_then}
use Rattle.sheet_words.specs.Words.{split, newline}
use Rattle.station_text.specs.Meaning.{lines_bytes}
use Rattle.station_text.specs.Lines.{line_record}
use Rattle.station_text.proofs.LineLaws.{record_length}
use Rattle.station_text.proofs.TextLaws.{bytes_last, bytes_turn}
use Rattle.station_text.proofs.ToldLaws.{wrote_as}
use Rattle.station_text.proofs.text.write.Goals as goal

pub write_record-to-requires : goal.write_record-to-requires
write_record-to-requires c =
    let x = record_length c.in-Some.line.now in
    record { below = omega (arith, c.loop-line.invariant.0, x.0, x.1) }

pub loop-line-preserved : goal.loop-line-preserved
loop-line-preserved c =
    let l = c.loop-line in
    let z = l.invariant.1 in
    let own = line_record c.in-Some.line.now in
    let x = record_length c.in-Some.line.now in (
      omega (arith, c.in-Some.ensures.lengths, l.invariant.0, c.write_record-to.ensures.next_place, x.0, x.1),
      (
        z.0 ++ own,
        wrote_then z.1 c.write_record-to.ensures,
        append_assoc z.0 own (lines_bytes (split newline c.in-Some.after.now))
            ∙ ap (λ (t : List ℕ). z.0 ++ t) (sym (bytes_turn l.rest.now c.in-Some.line.now c.in-Some.after.now c.in-Some.ensures))
            ∙ z.2,
      ),
    )

pub returns : goal.returns
returns c =
    let l = c.loop-line in
    let z = l.invariant.1 in
    wrote_as (sym (append-nil z.0) ∙ ap (λ (t : List ℕ). z.0 ++ t) (sym (bytes_last l.rest.now c.in_default.ensures)) ∙ z.2) z.1
