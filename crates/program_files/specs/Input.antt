-- What is counted of an input is in the room.
use Rattle.std.specs.Prelude.{List, ℕ, ◌≤◌, length, Result, IfOk}

abbrev pub InRoom : {E : Type 0} → Result ℕ E → List ℕ → Type 0
InRoom result room = IfOk result (λ n. n ≤ length room)
