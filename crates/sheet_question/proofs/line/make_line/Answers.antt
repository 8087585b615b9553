-- `make_line` meets its contract, way by way.
use Rattle.std.proofs.Common.{◌≡◌, ◌∙◌, sym, true}
use Rattle.std.proofs.lemmas.Result.{err_from_is_err_and}
use Rattle.ground.specs.Text.{bytes}
use Rattle.sheet_words.specs.Words.{begins}
use Rattle.sheet_words.proofs.Fronts.{begins-length}
use Rattle.sheet_question.proofs.Turns.{faulty}
use Rattle.sheet_question.proofs.LineTurns.{make-other, make-refused, make-taken}
use Rattle.sheet_question.proofs.line.make_line.Goals.{Else-not-begins}
use Rattle.sheet_question.proofs.line.make_line.Goals as goal

form : (c : Else-not-begins) → begins (bytes "make ") c.args.line.now ≡ true
form c = sym c.begins.ensures ∙ c.if-not-begins.false

pub returns-then-not-begins : goal.returns-then-not-begins
returns-then-not-begins c =
    let a = c.args in
    λ b h. faulty a.settings (make-other a.settings a.number b a.desk h a.line.now (sym c.begins.ensures ∙ c.if-not-begins.true))

pub slice_bounds-read-count : goal.slice_bounds-read-count
slice_bounds-read-count c = begins-length (bytes "make ") c.args.line.now (form (goal.at.slice_bounds-read-count c).Else-not-begins)

pub slice_bounds-read-start : goal.slice_bounds-read-start
slice_bounds-read-start c = begins-length (bytes "make ") c.args.line.now (form (goal.at.slice_bounds-read-start c).Else-not-begins)

pub returns-in_err-table : goal.returns-in_err-table
returns-in_err-table c =
    let a = c.args in
    let p = err_from_is_err_and c.from_residual.result c.from_residual.ensures.1 in
    rw (p.1, p.2) (λ b h. faulty a.settings (make-refused a.settings a.number b a.desk h a.line.now (form (goal.at.returns-in_err-table c).Else-not-begins) c.in_err-table.ensures))

pub returns : goal.returns
returns c =
    let a = c.args in
    λ b h. make-taken a.settings a.number b a.desk h a.line.now (form (goal.at.returns c).Else-not-begins) c.in_ok-table.ensures
