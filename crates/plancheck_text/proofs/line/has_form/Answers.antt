-- `has_form` meets its contract: as many bytes as signs, and each stands for its own.
use Rattle.std.proofs.Common.{rules, arith, ◌∙◌}
use Rattle.std.proofs.lemmas.Grind.{common_steps}
use borrow.Author.Tests.{tests}
use Rattle.std.proofs.lemmas.Iterator.{YieldsList-from_slice, YieldsList-from_zip}
use Rattle.std.proofs.lemmas.Iterator.Search.{all_from_yields_List}
use Rattle.plancheck_text.specs.Lines.{stands_for}
use Rattle.plancheck_text.proofs.LineLaws.{form_zipped, form_lengths}
use Rattle.plancheck_text.proofs.line.has_form.Goals as goal

pub returns-then-form-text : goal.returns-then-form-text
returns-then-form-text c =
    all_from_yields_List (λ p. stands_for p.0 p.1) c.all.new.self _ c.all.result c.all.ensures.ran
    (YieldsList-from_zip (YieldsList-from_slice c.args.form.now cc) (YieldsList-from_slice c.args.text.now cc))
    (λ x b q k. search (rules, tests))
    ∙ form_zipped c.args.form.now c.args.text.now c.if-form-text.true

pub returns-else-form-text : goal.returns-else-form-text
returns-else-form-text c = grind (arith, common_steps, form_lengths)
