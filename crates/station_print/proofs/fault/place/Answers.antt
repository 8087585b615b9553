-- `place` meets its contract: the index, and of a text the line.
use mathlib.Core.Path.{sym, ap, ◌∙◌}
use Rattle.std.proofs.Common.{ℕ, Option}
use Rattle.std.specs.Option.{unwrap_or}
use Rattle.ground.specs.Text.{bytes}
use Rattle.print_room.specs.Decimal.{decimal}
use Rattle.print_room.proofs.Writing.{wrote_then, ends-left, ends-right, wrote_as, ends_as}
use Rattle.station_print.specs.Faults.{place_text}
use Rattle.station_print.proofs.FaultLaws.{place-bytes, place-line}
use Rattle.station_print.proofs.fault.place.Goals as goal

pub word-to-requires : goal.word-to-requires
unfolding place_text
word-to-requires c = ends-left (bytes "act ") _ c.requires

pub number-to-requires : goal.number-to-requires
unfolding place_text
number-to-requires c = ends-left (decimal c.args.index) _ (ends-right c.word-to.ensures c.requires)

pub returns-then-not-is_text : goal.returns-then-not-is_text
returns-then-not-is_text c =
    let a = c.args in
    wrote_as (place-bytes a.shift.now a.index (sym c.is_text.ensures ∙ c.if-not-is_text.true))
    (wrote_then c.word-to.ensures c.number-to.ensures)

pub word-to-requires-2 : goal.word-to-requires-2
word-to-requires-2 c =
    let a = c.args in
    let e = place-line a.shift.now a.index (sym c.is_text.ensures ∙ c.if-not-is_text.false) in
    ends-left (bytes ", line ") _ (ends-right c.number-to.ensures (ends-right c.word-to.ensures (ends_as e c.requires)))

pub number-requires : goal.number-requires
number-requires c =
    let a = c.args in
    let e = place-line a.shift.now a.index (sym c.is_text.ensures ∙ c.if-not-is_text.false) in
    ends_as (ap decimal (sym (c.unwrap_or.ensures ∙ ap (λ (n : Option ℕ). unwrap_or n 0) c.line_of.ensures)))
    (ends-right c.word-to-2.ensures (ends-right c.number-to.ensures (ends-right c.word-to.ensures (ends_as e c.requires))))

pub returns : goal.returns
returns c =
    let a = c.args in
    let e = place-line a.shift.now a.index (sym c.is_text.ensures ∙ c.if-not-is_text.false) in
    wrote_as (sym e)
    (wrote_then c.word-to.ensures
    (wrote_then c.number-to.ensures (wrote_then c.word-to-2.ensures (wrote_as (ap decimal (c.unwrap_or.ensures ∙ ap (λ (n : Option ℕ). unwrap_or n 0) c.line_of.ensures)) c.number.ensures))))
