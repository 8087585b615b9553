-- `formula_line` meets its contract, by what the formula's reader answers.
use Rattle.std.proofs.lemmas.Result.{err_from_is_err_and}
use Rattle.sheet_words.specs.Steps.{next}
use Rattle.sheet_rules.proofs.StepLaws.{refused-step}
use Rattle.sheet_rules.proofs.Turns.{faulty, formula_taken}
use Rattle.sheet_rules.proofs.rights.formula_line.Goals as goal

pub returns-in_err-table : goal.returns-in_err-table
returns-in_err-table c =
    let a = c.args in
    let p = err_from_is_err_and c.from_residual.result c.from_residual.ensures.1 in
    rw (p.1, p.2) (λ rules f. faulty (refused-step a.desk.settings a.text.now (next rules) c.in_err-table.ensures))

pub returns : goal.returns
returns c =
    let a = c.args in
    rw c.ruled.ensures (λ rules f. formula_taken a.desk.settings a.text.now a.desk a.slot rules c.in_ok-table.ensures f)
