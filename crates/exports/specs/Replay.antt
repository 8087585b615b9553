-- `pj_replay`: what a replay answers, as one number, and the two lent numbers on return.
use Rattle.std.specs.Prelude.{◌≡◌, List, ℕ, Result}
use Rattle.refusal.specs.declared.Refusal.{Refusal}
use Rattle.station.specs.Replay.{Replays}
use Rattle.station.specs.declared.shift.Replayed.{Replayed}
use Rattle.exports.specs.Returned.{replay_returned, reached_after}

-- the result and the two numbers after the call, from the two before it
pub record ShiftReplayed (book : List ℕ) (start : ℕ) (shift old : List ℕ) (result : ℕ) (new : List ℕ) : Type 0 where
  pub answer : Result Replayed Refusal
  pub replays : Replays book start shift answer
  pub result_is : result ≡ replay_returned answer
  pub new_is : new ≡ reached_after answer old
