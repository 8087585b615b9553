-- `print` meets its contract: the length, whether it is odd, the first record that text cannot say, the length of the text, and the text.
use mathlib.Core.Path.{sym}
use native.Mathlib.Omega.{arith}
use Rattle.refusal.specs.declared.Refusal.TheVariants.{SheetLength, Shift, NoRecord}
use Rattle.station_text.specs.Meaning.{shift_text, print_meaning}
use Rattle.station_text.proofs.BytesLaws.{too_long, odd_length, with_stray, text_too_long, prints-text}
use Rattle.station_text.proofs.ToldLaws.{tells-refused, tells-given}
use Rattle.station_text.proofs.bytes.print.Goals as goal

pub returns-then-shift-gt-SHIFT_MOST : goal.returns-then-shift-gt-SHIFT_MOST
returns-then-shift-gt-SHIFT_MOST c =
    let a = c.args in
    tells-refused (print_meaning a.shift.now) a.out.now SheetLength (too_long a.shift.now (omega (arith, c.if-shift-gt-SHIFT_MOST.true)))

pub returns-then-shift-ne0 : goal.returns-then-shift-ne0
returns-then-shift-ne0 c =
    let a = c.args in
    tells-refused (print_meaning a.shift.now) a.out.now Shift (odd_length a.shift.now (omega (arith, c.if-shift-gt-SHIFT_MOST.false)) c.if-shift-ne0.true)

pub returns-then-said-shift : goal.returns-then-said-shift
returns-then-said-shift c =
    let a = c.args in
    let s = a.shift.now in
    let said = c.records_said-said in
    tells-refused (print_meaning s) a.out.now (NoRecord said.result)
    (with_stray s (omega (arith, c.if-shift-gt-SHIFT_MOST.false)) (omega arith) said.result (sym said.ensures) c.if-said-shift.true)

pub returns-then-write-gt-SHIFT_MOST : goal.returns-then-write-gt-SHIFT_MOST
returns-then-write-gt-SHIFT_MOST c =
    let a = c.args in
    let s = a.shift.now in
    let said = c.records_said-said in
    tells-refused (print_meaning s) a.out.now SheetLength
    (text_too_long s (omega (arith, c.if-shift-gt-SHIFT_MOST.false)) (omega arith) said.result (sym said.ensures) c.if-said-shift.false
    (omega (arith, c.if-write-gt-SHIFT_MOST.true, c.write.ensures.next_place)))

pub returns : goal.returns
returns c =
    let a = c.args in
    let s = a.shift.now in
    let said = c.records_said-said in
    tells-given (print_meaning s) a.out.now (shift_text s) _ _
    (prints-text s (omega (arith, c.if-shift-gt-SHIFT_MOST.false)) (omega arith) said.result (sym said.ensures) c.if-said-shift.false
    (omega (arith, c.if-write-gt-SHIFT_MOST.false, c.write.ensures.next_place)))
    c.write-2.ensures
