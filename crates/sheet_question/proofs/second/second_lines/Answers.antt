-- `second_lines` meets its contract: what is left is what was to be read from the start, while lines are passed over.
use Rattle.std.proofs.Common.{◌≡◌, ◌∙◌, ◌+◌, length, sym, subst, arith}
use Rattle.sheet_question.specs.Question.{QuestionMeaning}
use Rattle.sheet_question.specs.Reads.{ReadsQuestion}
use Rattle.sheet_question.proofs.ReadLaws.{refused-is}
use Rattle.sheet_question.proofs.SecondLaws.{second-ends, second_passes, second-begins}
use Rattle.sheet_question.proofs.second.second_lines.Goals as goal

pub from_team-requires : goal.from_team-requires
from_team-requires c =
    let h = c.requires in
    let l = c.loop-line in
    let cut : length l.rest.now ≡ length c.in-Some.line.now + 1 + length c.in-Some.after.now = c.in-Some.ensures.lengths in
    (h.0, h.1, h.2, omega (arith, l.invariant.shorter), omega (arith, l.invariant.counted))

pub returns-then-not-passed_over : goal.returns-then-not-passed_over
returns-then-not-passed_over c =
    let x = c.args in
    let l = c.loop-line in
    subst (λ (o : QuestionMeaning). ReadsQuestion x.settings o c.from_team.result)
    (sym (second-begins x.settings x.posts l.number l.rest.now c.in-Some.line.now c.in-Some.after.now c.in-Some.ensures.pieces
    (sym c.passed_over.ensures ∙ c.if-not-passed_over.true)) ∙ l.invariant.read)
    c.from_team.ensures

pub loop-line-preserved : goal.loop-line-preserved
loop-line-preserved c =
    let x = c.args in
    let l = c.loop-line in
    let cut : length l.rest.now ≡ length c.in-Some.line.now + 1 + length c.in-Some.after.now = c.in-Some.ensures.lengths in
    record {
      counted = omega (arith, l.invariant.counted);
      shorter = omega (arith, l.invariant.shorter);
      read = second_passes x.settings x.posts l.number l.rest.now c.in-Some.line.now c.in-Some.after.now c.in-Some.ensures.pieces
          (sym c.passed_over.ensures ∙ c.if-not-passed_over.false) ∙ l.invariant.read;
    }

pub returns : goal.returns
returns c =
    let x = c.args in
    let l = c.loop-line in
    refused-is x.settings (sym l.invariant.read ∙ second-ends x.settings x.posts l.number l.rest.now c.in_default.ensures)
