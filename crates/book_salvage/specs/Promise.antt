-- What `salvage` promises, for every input: the answer, and all of the lent room on return.
use Rattle.std.specs.Prelude.{◌≡◌, List, ◌++◌, ℕ, ◌≤◌, length, drop, Result, Ok, Err}
use Rattle.refusal.specs.declared.Refusal.{Refusal}
use Rattle.book_salvage.specs.declared.Salvaged.{Salvaged}
use Rattle.refusal.specs.Order.{First}
use Rattle.book_sound.specs.Rows.{Whole, settings_of, posts_of}
use Rattle.book_salvage.specs.Salvaged.{MarksOf, ones, salvaged_book}
use Rattle.book_salvage.specs.Rows.{HeadStands, salvage_rows}

-- the marks and their count
abbrev pub salvaged : ℕ → ℕ → Salvaged
salvaged marks count = record { marks = marks; count = count }

-- a book that can be salvaged into the room, the marks and their count, and the room after it: the salvaged book, then what the room held
pub record SalvagesTo (book room : List ℕ) (marks count : ℕ) (after : List ℕ) : Type 0 where
  pub whole : Whole book
  pub head : HeadStands book
  pub fits : length book ≤ length room
  pub marked : MarksOf book (settings_of book) (posts_of book) marks
  pub counted : count ≡ ones 8 marks
  pub filled : after ≡ salvaged_book book marks (settings_of book) ++ drop (length book) room

-- `salvage`: the salvaged book "fills the first bytes" of the room "and no others"; a refusal "leaves the room as it was"
abbrev pub Salvages : List ℕ → List ℕ → Result Salvaged Refusal → List ℕ → Type 0
Salvages book room (Ok s) after = SalvagesTo book room s.marks s.count after
Salvages book room (Err r) after = First (salvage_rows book room) r × (after ≡ room)
