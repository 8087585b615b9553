-- `read_rules` meets its contract: the rules at the beginning, and that nothing follows them.
use Rattle.std.proofs.Common.{ℕ, ◌∙◌, sym, ap, subst, arith, true}
use Rattle.std.proofs.lemmas.Result.{err_from_is_err_and}
use native.Mathlib.Numerals.{add-one}
use Rattle.refusal.specs.declared.Refusal.TheVariants.{Malformed}
use Rattle.sheet_rules.specs.Reading.{rules_of}
use Rattle.sheet_rules.specs.Meaning.{refused}
use Rattle.sheet_rules.proofs.Bounds.{TextGoes, rules_of_goes, lines_fit}
use Rattle.sheet_rules.proofs.MeaningLaws.{EndsAt, reads-refused, reads_upto, meaning-refused, meaning-whole, meaning-more, whole-refused-is}
use Rattle.sheet_rules.proofs.read_rules.Goals.{In_ok-rules}
use Rattle.sheet_rules.proofs.read_rules.Goals as goal

ends : (c : In_ok-rules) → EndsAt c.args.text.now (rules_of true 7 c.args.text.now) c.in_ok-rules.rules
ends c = reads_upto c.args.text.now (rules_of true 7 c.args.text.now) c.in_ok-rules.ensures

pub returns-in_err-rules : goal.returns-in_err-rules
returns-in_err-rules c =
    let s = c.args.text.now in
    let p = err_from_is_err_and c.from_residual.result c.from_residual.ensures.1 in
    rw (p.1, p.2) (whole-refused-is (meaning-refused s (reads-refused s (rules_of true 7 s) c.in_err-rules.ensures)))

pub overflow_add-line : goal.overflow_add-line
overflow_add-line c =
    let s = c.args.text.now in
    let e = ends (goal.at.overflow_add-line c).In_ok-rules in
    let read = c.in_ok-rules.rules in
    let z = lines_fit 7 s e.rules read.at read.lines (subst (TextGoes 7 s) e.reading (rules_of_goes true 7 s)) in
    omega (arith, z.0, z.1)

pub returns-then-rules-text : goal.returns-then-rules-text
returns-then-rules-text c =
    let s = c.args.text.now in
    whole-refused-is
    (meaning-more s (ends (goal.at.returns-then-rules-text c).In_ok-rules) c.if-rules-text.true ∙ ap (λ (k : ℕ). refused (Malformed k) k) (sym (add-one _)))

pub returns : goal.returns
returns c =
    let s = c.args.text.now in
    let e = ends (goal.at.returns c).In_ok-rules in
    rw (meaning-whole s e c.if-rules-text.false) e.holds
