-- `question::permit::by_rule` meets its contract: by the three answers of the judgement.
use mathlib.Core.Path.{◌≡◌, sym, ◌∙◌}
use Rattle.book_block.specs.Rule.{rule}
use Rattle.knowledge.specs.Number.{digit_in}
use Rattle.knowledge.specs.Fits.{now_side}
use Rattle.knowledge.specs.Judgement.{judgement}
use Rattle.question.proofs.PermitLaws.{rule-judged}
use Rattle.question.proofs.permit.by_rule.Goals as goal
use Rattle.question.proofs.permit.by_rule.Goals.{After-judge}

-- what was judged is the rule
judged : (c : After-judge) → judgement c.args.n (now_side (digit_in c.args.state.digits)) (rule c.args.book.now c.args.setting c.args.post c.args.right) ≡ c.judge.result
judged c =
    sym (rule-judged c.args.n c.args.book.now (digit_in c.args.state.digits) c.args.setting c.args.post c.args.right c.requires c.rule_at.ensures
    c.judge.ensures)

pub returns-in-TrueAtAll : goal.returns-in-TrueAtAll
returns-in-TrueAtAll c = rw (judged (goal.at.returns-in-TrueAtAll c).After-judge ∙ c.in-TrueAtAll.is)

pub returns-in-FalseAtAll : goal.returns-in-FalseAtAll
returns-in-FalseAtAll c = rw (judged (goal.at.returns-in-FalseAtAll c).After-judge ∙ c.in-FalseAtAll.is)

pub returns-in-Neither : goal.returns-in-Neither
returns-in-Neither c = rw (judged (goal.at.returns-in-Neither c).After-judge ∙ c.in-Neither.is)
