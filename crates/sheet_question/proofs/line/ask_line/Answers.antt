-- `ask_line` meets its contract, way by way.
use Rattle.std.proofs.Common.{◌≡◌, ◌∙◌, sym, true}
use Rattle.std.proofs.lemmas.Result.{err_from_is_err_and}
use Rattle.ground.specs.Text.{bytes}
use Rattle.sheet_words.specs.Words.{begins}
use Rattle.sheet_words.proofs.Fronts.{begins-length}
use Rattle.sheet_question.proofs.Turns.{faulty}
use Rattle.sheet_question.proofs.LineTurns.{ask_other, ask_fifth, ask-refused, ask-taken}
use Rattle.sheet_question.proofs.line.ask_line.Goals.{Else-not-begins, then-not-begins-via-then-not-begins, then-not-begins-via-else-not-begins+then-desk-ge-ASKS_MOST}
use Rattle.sheet_question.proofs.line.ask_line.Goals as goal

form : (c : Else-not-begins) → begins (bytes "ask ") c.args.line.now ≡ true
form c = sym c.begins.ensures ∙ c.if-not-begins.false

pub returns-then-not-begins : goal.returns-then-not-begins
returns-then-not-begins c =
    let a = c.args in
    λ b h. elim c.then-not-begins.branch [
      | then-not-begins-via-then-not-begins w ↦ faulty a.settings (ask_other a.settings a.number b a.desk h a.line.now (sym c.begins.ensures ∙ w.if-not-begins.true))
      | then-not-begins-via-else-not-begins+then-desk-ge-ASKS_MOST w ↦ faulty a.settings
          (ask_fifth a.settings a.number b a.desk h a.line.now (sym c.begins.ensures ∙ w.if-not-begins.false) w.if-desk-ge-ASKS_MOST.true)
    ]

pub slice_bounds-read-count : goal.slice_bounds-read-count
slice_bounds-read-count c = begins-length (bytes "ask ") c.args.line.now (form (goal.at.slice_bounds-read-count c).Else-not-begins)

pub slice_bounds-read-start : goal.slice_bounds-read-start
slice_bounds-read-start c = begins-length (bytes "ask ") c.args.line.now (form (goal.at.slice_bounds-read-start c).Else-not-begins)

pub returns-in_err-table : goal.returns-in_err-table
returns-in_err-table c =
    let a = c.args in
    let p = err_from_is_err_and c.from_residual.result c.from_residual.ensures.1 in
    rw (p.1, p.2) (λ b h. faulty a.settings (ask-refused a.settings a.number b a.desk h a.line.now (form (goal.at.returns-in_err-table c).Else-not-begins) c.if-desk-ge-ASKS_MOST.false c.in_err-table.ensures))

pub returns : goal.returns
returns c =
    let a = c.args in
    λ b h. rw c.learning.ensures (ask-taken a.settings a.number b a.desk h a.line.now (form (goal.at.returns c).Else-not-begins) c.if-desk-ge-ASKS_MOST.false c.in_ok-table.ensures)
