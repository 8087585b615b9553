-- `record_words` meets its contract, by whether text can say the record.
use mathlib.Core.Path.{sym, ◌∙◌}
use mathlib.Core.List.{[], ◌∷◌}
use Rattle.ground.specs.Text.{bytes}
use Rattle.print_room.specs.Decimal.{decimal}
use Rattle.print_room.proofs.Writing.{wrote_then, ends-left, ends-right, wrote_as, ends_as}
use Rattle.station_print.proofs.FaultLaws.{record_said, record_unsaid}
use Rattle.station_print.proofs.fault.record_words.Goals as goal

pub record_text-requires : goal.record_text-requires
record_text-requires c =
    let a = c.args in
    ends_as (record_said a.byte a.seen (sym c.is_record.ensures ∙ c.if-is_record.true)) c.requires

pub returns-then-is_record : goal.returns-then-is_record
returns-then-is_record c =
    let a = c.args in
    wrote_as (sym (record_said a.byte a.seen (sym c.is_record.ensures ∙ c.if-is_record.true))) c.record_text.ensures

pub word-to-requires : goal.word-to-requires
word-to-requires c =
    let a = c.args in
    let pre = ends_as (record_unsaid a.byte a.seen (sym c.is_record.ensures ∙ c.if-is_record.false)) c.requires in
    ends-left (bytes "bytes ") _ pre

pub number-to-requires : goal.number-to-requires
number-to-requires c =
    let a = c.args in
    let pre = ends_as (record_unsaid a.byte a.seen (sym c.is_record.ensures ∙ c.if-is_record.false)) c.requires in
    ends-left (decimal a.byte) _ (ends-right c.word-to.ensures pre)

pub put-to-requires : goal.put-to-requires
put-to-requires c =
    let a = c.args in
    let pre = ends_as (record_unsaid a.byte a.seen (sym c.is_record.ensures ∙ c.if-is_record.false)) c.requires in
    ends-left (32 ∷ []) (decimal a.seen) (ends-right c.number-to.ensures (ends-right c.word-to.ensures pre))

pub number-requires : goal.number-requires
number-requires c =
    let a = c.args in
    let pre = ends_as (record_unsaid a.byte a.seen (sym c.is_record.ensures ∙ c.if-is_record.false)) c.requires in
    ends-right c.put-to.ensures (ends-right c.number-to.ensures (ends-right c.word-to.ensures pre))

pub returns : goal.returns
returns c =
    let a = c.args in
    wrote_as (sym (record_unsaid a.byte a.seen (sym c.is_record.ensures ∙ c.if-is_record.false)))
    (wrote_then c.word-to.ensures (wrote_then c.number-to.ensures (wrote_then c.put-to.ensures c.number.ensures)))
