-- What the public functions promise, for every input: the answer, and all of the lent room on return.
use Rattle.std.specs.Prelude.{◌≡◌, List, ◌++◌, ℕ, ◌+◌, ◌*◌, ◌≤◌, length, drop, Result, Ok, Err}
use Rattle.refusal.specs.declared.Refusal.{Refusal}
use Rattle.book_sound.specs.declared.Size.{Size}
use Rattle.book_sound.specs.Sound.{Sound, rights_of}
use Rattle.book.specs.Written.{book_of, Writable}
use Rattle.refusal.specs.Order.{First}
use Rattle.book.specs.Rows.{read_rows, write_rows}

-- `read`: "a book read [..] fills the first 256 × n [..] bytes of its room and no others"; a refusal "writes nothing"
abbrev pub ReadsBook : List ℕ → List ℕ → Result Size Refusal → List ℕ → Type 0
ReadsBook book room (Ok s) after =
    Sound book s.settings s.posts × (256 * s.settings ≤ length room) × (after ≡ rights_of book s.settings ++ drop (256 * s.settings) room)
ReadsBook book room (Err r) after = First (read_rows book room) r × (after ≡ room)

-- `write`: "a book [..] written fills the first [..] 512 × (1 + n) bytes of its room and no others"; a refusal "writes nothing"
abbrev pub WritesBook : ℕ → ℕ → List ℕ → List ℕ → Result (Unit {0}) Refusal → List ℕ → Type 0
WritesBook n m rights room (Ok _) after =
    Writable n m rights × (512 * (1 + n) ≤ length room) × (after ≡ book_of n m rights ++ drop (512 * (1 + n)) room)
WritesBook n m rights room (Err r) after = First (write_rows n m rights room) r × (after ≡ room)
