-- `check` meets its contract: the question's refusals, then 16, then the judgement on the bytes.
use mathlib.Core.Path.{sym, subst}
use Prim.Native.Nat.{ℕ, ◌^◌, ◌<◌}
use Rattle.std.proofs.lemmas.Result.{err_from_is_err_and}
use Rattle.question.proofs.AskLaws.{start_is}
use Rattle.question.proofs.SystemLaws.{few, lawful, start_small}
use Rattle.plancheck.proofs.AnswerLaws.{question_row, long-row, verdict-checks}
use Rattle.plancheck.proofs.walk.check.Goals as goal

pub returns-then-plan-gt-PLAN_MOST : goal.returns-then-plan-gt-PLAN_MOST
returns-then-plan-gt-PLAN_MOST c = long-row _ _ _ _ c.in_ok-size.ensures c.if-plan-gt-PLAN_MOST.true

pub walk-requires : goal.walk-requires
walk-requires c =
    let v = c.in_ok-size.ensures in (
      few v,
      lawful v,
      subst (λ (x : ℕ). x < 7 ^ 7) (sym (start_is c.args.question c.at_start.ensures c.number-start.ensures)) (start_small c.args.question),
    )

pub returns : goal.returns
returns c =
    verdict-checks _ _ _ _ c.in_ok-size.ensures c.if-plan-gt-PLAN_MOST.false
    (start_is c.args.question c.at_start.ensures c.number-start.ensures) c.walk.ensures

pub returns-in_err-size : goal.returns-in_err-size
returns-in_err-size c =
    let p = err_from_is_err_and c.from_residual.result c.from_residual.ensures.1 in
    rw (p.1, p.2) (question_row _ _ _ _ c.in_err-size.ensures)
