-- `read` meets its contract: the length, the first line, the first stray line, and where there is none the bytes.
use Rattle.std.proofs.Common.{ℕ, Option, sym, ap, ◌∙◌}
use Rattle.refusal.specs.declared.Refusal.TheVariants.{Malformed, SheetLength}
use Rattle.sheet_words.specs.Words.{split, newline}
use Rattle.plancheck_text.specs.Meaning.{unless_stray, line_bytes, plan_text_meaning}
use Rattle.plancheck_text.proofs.TextLaws.{too_long, no_line, first-line, tells-refused, tells-read}
use Rattle.plancheck_text.proofs.read.Goals as goal

pub returns-then-text-gt-PLAN_TEXT_MOST : goal.returns-then-text-gt-PLAN_TEXT_MOST
returns-then-text-gt-PLAN_TEXT_MOST c =
    let a = c.args in
    tells-refused (plan_text_meaning a.text.now) a.room.now SheetLength (too_long a.text.now c.if-text-gt-PLAN_TEXT_MOST.true)

pub returns-in_default : goal.returns-in_default
returns-in_default c =
    let a = c.args in
    tells-refused (plan_text_meaning a.text.now) a.room.now (Malformed 1) (no_line a.text.now c.if-text-gt-PLAN_TEXT_MOST.false c.in_default.ensures)

pub returns-then-not-is_reach : goal.returns-then-not-is_reach
returns-then-not-is_reach c =
    let a = c.args in
    tells-refused (plan_text_meaning a.text.now) a.room.now (Malformed 1)
    (first-line a.text.now c.if-text-gt-PLAN_TEXT_MOST.false c.in-Some.first.now c.in-Some.rest.now c.in-Some.ensures.pieces
    (sym c.is_reach.ensures ∙ c.if-not-is_reach.true))

pub returns-in-Some-stray_line : goal.returns-in-Some-stray_line
returns-in-Some-stray_line c =
    let a = c.args in
    tells-refused (plan_text_meaning a.text.now) a.room.now (Malformed c.in-Some-stray_line.stray)
    (first-line a.text.now c.if-text-gt-PLAN_TEXT_MOST.false c.in-Some.first.now c.in-Some.rest.now c.in-Some.ensures.pieces
    (sym c.is_reach.ensures ∙ c.if-not-is_reach.false)
    ∙ ap (λ (L : Option ℕ). unless_stray L (line_bytes (split newline c.in-Some.rest.now))) (sym c.stray_line.ensures ∙ c.in-Some-stray_line.is))

pub returns : goal.returns
returns c =
    let a = c.args in
    tells-read (plan_text_meaning a.text.now) a.room.now (line_bytes (split newline c.in-Some.rest.now)) _ _
    (first-line a.text.now c.if-text-gt-PLAN_TEXT_MOST.false c.in-Some.first.now c.in-Some.rest.now c.in-Some.ensures.pieces
    (sym c.is_reach.ensures ∙ c.if-not-is_reach.false)
    ∙ ap (λ (L : Option ℕ). unless_stray L (line_bytes (split newline c.in-Some.rest.now))) (sym c.stray_line.ensures ∙ c.in_default-stray_line.is))
    c.write.ensures
