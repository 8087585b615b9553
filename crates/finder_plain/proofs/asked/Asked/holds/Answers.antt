-- `holds` meets its contract, by what the rule is judged to be.
use mathlib.Core.Path.{ap, ◌∙◌}
use Rattle.knowledge.specs.Number.{digit_in}
use Rattle.knowledge.specs.Judgement.{holds, known}
use Rattle.question.proofs.PermitLaws.{rule-judged}
use Rattle.finder_plain.proofs.asked.Asked.holds.Goals as goal

pub returns : goal.returns
unfolding known
returns c =
    let a = c.args in
    c.holds.ensures ∙ ap holds (rule-judged a.self.now.n a.self.now.book.now (digit_in a.state.digits) a.setting a.post a.right c.requires c.rule_at-at.ensures c.judge.ensures)
