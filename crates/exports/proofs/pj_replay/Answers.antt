-- `pj_replay` meets its contract: the answer is the replay's, and the two lent numbers are what it reached.
use mathlib.Core.Path.{sym, ap, ◌∙◌}
use Rattle.std.specs.Prelude.{Ok}
use Rattle.exports.specs.Returned.{replay_returned, reached_after}
use Rattle.exports.proofs.pj_replay.Goals as goal

pub returns-in-Whole : goal.returns-in-Whole
returns-in-Whole c =
    let is = c.in-Ok.is ∙ ap Ok c.in-Whole.is in
    record {
      answer = c.replay.result;
      replays = c.replay.ensures;
      result_is = sym (ap replay_returned is);
      new_is = c.reached_as.ensures ∙ sym (ap (λ x. reached_after x c.args.reached.now) is);
    }

pub returns-in-Stopped : goal.returns-in-Stopped
returns-in-Stopped c =
    let is = c.in-Ok.is ∙ ap Ok c.in-Stopped.is in
    record {
      answer = c.replay.result;
      replays = c.replay.ensures;
      result_is = c.packed.ensures ∙ sym (ap replay_returned is);
      new_is = c.reached_as-in-Stopped.ensures ∙ sym (ap (λ x. reached_after x c.args.reached.now) is);
    }

pub returns-in-Err : goal.returns-in-Err
returns-in-Err c =
    let is = c.in-Err.is in
    record {
      answer = c.replay.result;
      replays = c.replay.ensures;
      result_is = c.packed-in-Err.ensures ∙ sym (ap replay_returned is);
      new_is = sym (ap (λ x. reached_after x c.args.reached.now) is);
    }
