-- `read` meets its contract: the length, the rules, and the question from the byte where they end.
use Rattle.std.proofs.Common.{false, arith}
use Rattle.std.proofs.lemmas.Result.{err_from_is_err_and}
use Rattle.refusal.specs.declared.Refusal.TheVariants.{SheetLength}
use Rattle.sheet_rules.specs.Reading.{rules_of}
use Rattle.sheet_rules.proofs.MeaningLaws.{EndsAt, reads-refused, reads_upto}
use Rattle.sheet_reading.proofs.ReadLaws.{too_long, rules-at-fault, rules_fit, sheet-stated, question_at-fault, refused-is}
use Rattle.sheet_reading.proofs.read.Goals.{In_ok-first}
use Rattle.sheet_reading.proofs.read.Goals as goal

ends : (c : In_ok-first) → EndsAt c.args.sheet.now (rules_of false 5 c.args.sheet.now) c.in_ok-first.first
ends c = reads_upto c.args.sheet.now (rules_of false 5 c.args.sheet.now) c.in_ok-first.ensures

pub returns-then-sheet-gt-SHEET_MOST : goal.returns-then-sheet-gt-SHEET_MOST
returns-then-sheet-gt-SHEET_MOST c = refused-is (record { why = SheetLength; line = 0 }) (too_long c.args.sheet.now c.if-sheet-gt-SHEET_MOST.true)

pub returns-in_err-first : goal.returns-in_err-first
returns-in_err-first c =
    let s = c.args.sheet.now in
    let p = err_from_is_err_and c.from_residual.result c.from_residual.ensures.1 in
    rw (p.1, p.2) (refused-is c.in_err-first.field-0.0 (rules-at-fault s c.if-sheet-gt-SHEET_MOST.false (reads-refused s (rules_of false 5 s) c.in_err-first.ensures)))

pub slice_bounds-question_of-count : goal.slice_bounds-question_of-count
slice_bounds-question_of-count c = (ends (goal.at.slice_bounds-question_of-count c).In_ok-first).fits

pub slice_bounds-question_of-start : goal.slice_bounds-question_of-start
slice_bounds-question_of-start c = (ends (goal.at.slice_bounds-question_of-start c).In_ok-first).fits

pub overflow_cast-first : goal.overflow_cast-first
overflow_cast-first c =
    let e = ends (goal.at.overflow_cast-first c).In_ok-first in
    let z = rules_fit c.args.sheet.now c.if-sheet-gt-SHEET_MOST.false e in
    record { fits = omega (arith, z.0, z.1, e.fits) }

pub returns-in_err-asked : goal.returns-in_err-asked
returns-in_err-asked c =
    let p = err_from_is_err_and c.from_residual-in_err-asked.result c.from_residual-in_err-asked.ensures.1 in
    rw (p.1, p.2) (refused-is c.in_err-asked.field-0.0
    (question_at-fault c.args.sheet.now c.if-sheet-gt-SHEET_MOST.false (ends (goal.at.returns-in_err-asked c).In_ok-first) c.in_err-asked.ensures))

pub returns : goal.returns
returns c = sheet-stated c.args.sheet.now c.if-sheet-gt-SHEET_MOST.false (ends (goal.at.returns c).In_ok-first) c.in_ok-asked.asked c.in_ok-asked.ensures
