-- `ask` meets its contract: the book first, and then the question over its size.
use Rattle.std.proofs.Common.{refl}
use mathlib.Core.Logic.{inl, inr}
use Rattle.sheet_ask.proofs.ask.Goals as goal

pub returns-in-Err : goal.returns-in-Err
returns-in-Err c = inl (c.in-Err.why, c.in-Err.ensures, record { ranks_kept = refl; printed = c.refuse.ensures })

pub returns-in-Ok : goal.returns-in-Ok
returns-in-Ok c = inr (_, _, c.in-Ok.ensures, c.ask_sound.ensures)
