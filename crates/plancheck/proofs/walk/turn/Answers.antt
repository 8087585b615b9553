-- `turn` meets its contract: by where the reading stands, and what the byte comes to there.
use native.Mathlib.Omega.{arith}
use Rattle.plancheck.proofs.StandingLaws.{open_held, room_for, turn_open}
use Rattle.plancheck.proofs.walk.turn.Goals as goal

pub after-requires : goal.after-requires
after-requires c =
    let a = c.args in
    let ready = c.requires.2 in (
      ready.room,
      omega (arith, c.requires.0, ready.most),
      room_for c.requires.1 c.requires.0 a.standing c.in-Some.here a.at a.byte (open_held a.standing ready c.in-Some.is) c.in_ok-reading.ensures,
    )

pub returns : goal.returns
returns c =
    let a = c.args in
    rw c.after.ensures (turn_open c.requires.1 c.requires.0 a.standing c.in-Some.here a.at a.byte c.requires.2 c.in-Some.is c.in_ok-reading.ensures)
