-- `from_team` meets its contract: the team's line is at fault, or the lines after it are read with `make` due.
use Rattle.std.proofs.Common.{sym, subst}
use Rattle.sheet_words.specs.Words.{split, newline}
use Rattle.sheet_question.specs.Asked.{nothing_asked}
use Rattle.sheet_question.specs.LineSteps.{team_step}
use Rattle.sheet_question.specs.Question.{QuestionMeaning}
use Rattle.sheet_question.specs.Reads.{ReadsQuestion}
use Rattle.sheet_question.proofs.Turns.{faulted, went_on}
use Rattle.sheet_question.proofs.ReadLaws.{refused-is}
use Rattle.sheet_question.proofs.SecondLaws.{team-faults, team_goes_on}
use Rattle.sheet_question.proofs.second.from_team.Goals as goal

pub returns-in-Err : goal.returns-in-Err
returns-in-Err c =
    let x = c.args in
    let h = c.requires in
    refused-is x.settings
    (team-faults x.settings x.posts x.number (split newline x.rest.now)
    (faulted x.settings (team_step x.posts x.number nothing_asked x.line.now)
    (c.in-Err.ensures x.settings nothing_asked (c.nothing_asked.ensures x.settings h.0 h.1))))

pub returns-in-Ok : goal.returns-in-Ok
returns-in-Ok c =
    let x = c.args in
    let h = c.requires in
    let w = went_on x.settings (team_step x.posts x.number nothing_asked x.line.now)
    (c.in-Ok.ensures x.settings nothing_asked (c.nothing_asked.ensures x.settings h.0 h.1)) in
    subst (λ (o : QuestionMeaning). ReadsQuestion x.settings o c.lines.result)
    (sym (team_goes_on x.settings x.posts x.number (split newline x.rest.now) w.1))
    (c.lines.ensures w.0 w.2)
