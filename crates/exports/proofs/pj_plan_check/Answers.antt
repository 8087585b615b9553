-- `pj_plan_check` meets its contract: the answer is the plan check's.
use mathlib.Core.Path.{sym, ap, ◌∙◌}
use Rattle.exports.specs.Returned.{check_returned}
use Rattle.exports.proofs.pj_plan_check.Goals as goal

pub returns-in-Ok : goal.returns-in-Ok
returns-in-Ok c = record { answer = c.check.result; checks = c.check.ensures; result_is = sym (ap check_returned c.in-Ok.is) }

pub returns-in-Err : goal.returns-in-Err
returns-in-Err c =
    record {
      answer = c.check.result;
      checks = c.check.ensures;
      result_is = c.packed.ensures ∙ sym (ap check_returned c.in-Err.is);
    }
