-- `rules_line` meets its contract: the first form that fits is the line's.
use mathlib.Core.Path.{refl, sym, ◌∙◌, subst}
use mathlib.Core.Bool.{true, false}
use lib.Dec.{lit<}
use Rattle.ground.proofs.Bools.{true→T}
use Rattle.sheet_words.specs.Steps.{Step}
use Rattle.sheet_rules.specs.Rules.{Rules}
use Rattle.sheet_rules.specs.Turns.{Turns}
use Rattle.sheet_rules.proofs.Turns.{taken}
use Rattle.sheet_rules.proofs.RuleTurns.{line_of, set-left}
use Rattle.std.proofs.Common.{arith}
use Rattle.std.proofs.lemmas.Grind.{common_steps}
use Rattle.sheet_rules.proofs.line.rules_line.Goals as goal

pub returns-then-passed_over : goal.returns-then-passed_over
returns-then-passed_over c =
    let a = c.args in
    λ rules h. taken (line_of a.passes rules a.desk h a.line.now a.number true _ (grind (arith, common_steps)) refl) h

pub rule_line-requires : goal.rule_line-requires
rule_line-requires c = (c.requires.0, lit< tt, true→T (sym c.is_rule.ensures ∙ c.if-is_rule.true))

pub returns-then-is_rule : goal.returns-then-is_rule
returns-then-is_rule c =
    let a = c.args in
    λ rules h. subst (λ (s : Step Rules). Turns s c.rule_line.result)
    (sym (line_of a.passes rules a.desk h a.line.now a.number false true
    (grind (arith, common_steps)) (sym c.is_rule.ensures ∙ c.if-is_rule.true))) (c.rule_line.ensures rules h)

pub rule_line-requires-2 : goal.rule_line-requires-2
rule_line-requires-2 c =
    let a = c.args in (
      c.requires.0,
      lit< tt,
      set-left a.passes a.desk.settings a.desk.posts a.line.now c.requires.1
          (grind (arith, common_steps)) (sym c.is_rule.ensures ∙ c.if-is_rule.false),
    )

pub returns : goal.returns
returns c =
    let a = c.args in
    λ rules h. subst (λ (s : Step Rules). Turns s c.rule_line-2.result)
    (sym (line_of a.passes rules a.desk h a.line.now a.number false false
    (grind (arith, common_steps)) (sym c.is_rule.ensures ∙ c.if-is_rule.false))) (c.rule_line-2.ensures rules h)
