-- What a private function means. No public promise rests on a definition of this file.
use Rattle.std.specs.Prelude.{List, ℕ, ◌+◌, ◌*◌, ◌≤◌, length, Result, Ok, Err}
use Rattle.refusal.specs.declared.Refusal.{Refusal}
use Rattle.book.specs.Written.{Writable}
use Rattle.refusal.specs.Order.{First}
use Rattle.book.specs.Rows.{write_rows}

-- what `write` finds out before it writes anything
abbrev pub MayWrite : ℕ → ℕ → List ℕ → List ℕ → Result (Unit {0}) Refusal → Type 0
MayWrite n m rights room (Ok _) = Writable n m rights × (512 * (1 + n) ≤ length room)
MayWrite n m rights room (Err r) = First (write_rows n m rights room) r
