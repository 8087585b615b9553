-- `read` meets its contract: the length, the first stray line, and where there is none the records.
use Rattle.std.proofs.Common.{sym, ◌∙◌}
use Rattle.refusal.specs.declared.Refusal.TheVariants.{Malformed, SheetLength}
use Rattle.sheet_words.specs.Words.{split, newline}
use Rattle.station_text.specs.Meaning.{lines_bytes, read_meaning}
use Rattle.station_text.proofs.TextLaws.{too_long, with_stray, without_stray}
use Rattle.station_text.proofs.ToldLaws.{tells-refused, tells-given}
use Rattle.station_text.proofs.text.read.Goals as goal

pub returns-then-text-gt-SHIFT_MOST : goal.returns-then-text-gt-SHIFT_MOST
returns-then-text-gt-SHIFT_MOST c =
    let a = c.args in
    tells-refused (read_meaning a.text.now) a.room.now SheetLength (too_long a.text.now c.if-text-gt-SHIFT_MOST.true)

pub returns-in-Some : goal.returns-in-Some
returns-in-Some c =
    let a = c.args in
    tells-refused (read_meaning a.text.now) a.room.now (Malformed c.in-Some.stray)
    (with_stray a.text.now c.if-text-gt-SHIFT_MOST.false c.in-Some.stray (sym c.stray_line.ensures ∙ c.in-Some.is))

pub returns : goal.returns
returns c =
    let a = c.args in
    tells-given (read_meaning a.text.now) a.room.now (lines_bytes (split newline a.text.now)) _ _
    (without_stray a.text.now c.if-text-gt-SHIFT_MOST.false (sym c.stray_line.ensures ∙ c.in_default.is))
    c.write.ensures
