-- What `sound` promises, for every input.
use Rattle.std.specs.Prelude.{List, ℕ, Result, Ok, Err}
use Rattle.refusal.specs.declared.Refusal.{Refusal}
use Rattle.refusal.specs.Order.{First}
use Rattle.book_sound.specs.declared.Size.{Size}
use Rattle.book_sound.specs.Sound.{Sound}
use Rattle.book_sound.specs.Rows.{book_rows}

-- a book's n and m
abbrev pub size : ℕ → ℕ → Size
size n m = record { settings = n; posts = m }

-- `sound`: the book's n and m, or the first of "the book's 6 to 9"
abbrev pub Judges : List ℕ → Result Size Refusal → Type 0
Judges book (Ok s) = Sound book s.settings s.posts
Judges book (Err r) = First (book_rows book) r
