-- `check` meets its contract: the book's refusal is said as it is, and a sound book is asked.
use Rattle.std.proofs.Common.{refl}
use mathlib.Core.Logic.{inl, inr}
use Rattle.sheet_check.proofs.check.Goals as goal

pub returns-in-Err : goal.returns-in-Err
returns-in-Err c = inl (_, c.in-Err.ensures, refl)

pub returns-in-Ok : goal.returns-in-Ok
returns-in-Ok c = inr (_, _, c.in-Ok.ensures, c.check_sound.ensures)
