-- `lines` meets its contract: what is left is what was to be read from the start.
use Rattle.std.proofs.Common.{◌≡◌, ◌∙◌, ◌+◌, length, sym, subst, arith}
use Rattle.sheet_question.specs.LineSteps.{line_step}
use Rattle.sheet_question.specs.Question.{QuestionMeaning}
use Rattle.sheet_question.specs.Reads.{ReadsQuestion}
use Rattle.sheet_question.proofs.Turns.{faulted, went_on}
use Rattle.sheet_question.proofs.ReadLaws.{refused-is, rest-ends, rest-faults, rest_goes_on}
use Rattle.sheet_question.proofs.lines.Goals as goal

pub returns-in-Err : goal.returns-in-Err
returns-in-Err c =
    let x = c.args in
    let n = x.settings in
    let l = c.loop-line in
    let line = c.in-Some.line.now in
    λ b d.
    let z = l.invariant.read b d in
    let w = faulted n (line_step x.passes n x.posts l.number l.due z.0 line) (c.in-Err.ensures z.0 z.1) in
    refused-is n (sym z.2 ∙ rest-faults x.passes n x.posts l.number l.due z.0 l.rest.now line c.in-Some.after.now c.in-Some.ensures.pieces w)

pub loop-line-preserved : goal.loop-line-preserved
loop-line-preserved c =
    let x = c.args in
    let n = x.settings in
    let l = c.loop-line in
    let line = c.in-Some.line.now in
    let cut : length l.rest.now ≡ length line + 1 + length c.in-Some.after.now = c.in-Some.ensures.lengths in
    record {
      counted = omega (arith, l.invariant.counted);
      read = λ b d.
          let z = l.invariant.read b d in
          let w = went_on n (line_step x.passes n x.posts l.number l.due z.0 line) (c.in-Ok.ensures z.0 z.1) in
          (w.0, w.2, rest_goes_on x.passes n x.posts l.number l.due z.0 l.rest.now line c.in-Some.after.now c.in-Some.ensures.pieces w.1 ∙ z.2);
    }

pub returns : goal.returns
returns c =
    let x = c.args in
    let l = c.loop-line in
    λ b d.
    let z = l.invariant.read b d in
    subst (λ (o : QuestionMeaning). ReadsQuestion x.settings o c.ending.result)
    (sym (rest-ends x.passes x.settings x.posts l.number l.due z.0 l.rest.now c.in_default.ensures) ∙ z.2)
    (c.ending.ensures x.settings z.0 z.1)
