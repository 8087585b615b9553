-- `write` meets its contract: the lines of the records so far were written, and those of the rest are still to come.
use Rattle.std.proofs.Common.{List, ◌++◌, ℕ, ◌+◌, ◌*◌, get_or, drop, arith, sym, ap, ◌∙◌}
use mathlib.Core.List.{append_assoc, append-nil}
use Rattle.print_room.proofs.Writing.{wrote_then}
use Rattle.print_answer.specs.Listed.{line}
use Rattle.station_text.specs.Records.{record_text}
use Rattle.station_text.specs.Meaning.{shift_text}
use Rattle.station_text.proofs.BytesLaws.{text-most, text_turn, text_end}
use Rattle.station_text.proofs.ToldLaws.{wrote_as}
use Rattle.station_text.proofs.bytes.write.Goals as goal

pub record_text-to-requires : goal.record_text-to-requires
record_text-to-requires c =
    let s = c.args.shift.now in
    let l = c.loop-count in
    record { below = omega (arith, l.invariant.0, text-most (get_or s (2 * l.count) 0) (get_or s (2 * l.count + 1) 0)) }

pub put-to-requires : goal.put-to-requires
put-to-requires c =
    let s = c.args.shift.now in
    let l = c.loop-count in
    record {
      below = omega (arith, l.invariant.0, c.record_text-to.ensures.next_place, text-most (get_or s (2 * l.count) 0) (get_or s (2 * l.count + 1) 0));
    }

pub loop-count-preserved : goal.loop-count-preserved
loop-count-preserved c =
    let s = c.args.shift.now in
    let l = c.loop-count in
    let z = l.invariant.1 in
    let text = record_text (get_or s (2 * l.count) 0) (get_or s (2 * l.count + 1) 0) in (
      omega (
        arith,
        l.invariant.0,
        c.record_text-to.ensures.next_place,
        c.put-to.ensures.next_place,
        text-most (get_or s (2 * l.count) 0) (get_or s (2 * l.count + 1) 0),
      ),
      (
        z.0 ++ line text,
        wrote_then z.1 (wrote_then c.record_text-to.ensures c.put-to.ensures),
        ap (λ (i : ℕ). (z.0 ++ line text) ++ shift_text (drop i s)) {x = 2 * (l.count + 1)} {y = 2 * l.count + 2} (omega arith)
            ∙ append_assoc z.0 (line text) (shift_text (drop (2 * l.count + 2) s))
            ∙ ap (λ (t : List ℕ). z.0 ++ t) (sym (text_turn s (2 * l.count) (omega arith)))
            ∙ z.2,
      ),
    )

pub returns : goal.returns
returns c =
    let l = c.loop-count in
    let z = l.invariant.1 in
    wrote_as (sym (append-nil z.0) ∙ ap (λ (t : List ℕ). z.0 ++ t) (sym (text_end c.args.shift.now (2 * l.count) (omega arith))) ∙ z.2) z.1
