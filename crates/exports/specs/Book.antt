-- `pj_book_read`, `pj_book_write` and `pj_book_salvage`: what the book's reader, its writer and the salvage answer, as one number; the lent room is
-- left as they leave it.
use Rattle.std.specs.Prelude.{◌≡◌, List, ℕ, Result}
use Rattle.book.specs.Promise.{ReadsBook, WritesBook}
use Rattle.book_salvage.specs.Promise.{Salvages}
use Rattle.book_salvage.specs.declared.Salvaged.{Salvaged}
use Rattle.book_sound.specs.declared.Size.{Size}
use Rattle.refusal.specs.declared.Refusal.{Refusal}
use Rattle.exports.specs.Returned.{read_returned, write_returned, salvage_returned}

-- the result and the room after the call, from the room before it
pub record BookRead (book old : List ℕ) (result : ℕ) (new : List ℕ) : Type 0 where
  pub answer : Result Size Refusal
  pub reads : ReadsBook book old answer new
  pub result_is : result ≡ read_returned answer

-- the result and the room after the call, from the room before it
pub record BookWritten (n m : ℕ) (rights old : List ℕ) (result : ℕ) (new : List ℕ) : Type 0 where
  pub answer : Result (Unit {0}) Refusal
  pub writes : WritesBook n m rights old answer new
  pub result_is : result ≡ write_returned answer

-- the result and the room after the call, from the room before it
pub record BookSalvaged (book old : List ℕ) (result : ℕ) (new : List ℕ) : Type 0 where
  pub answer : Result Salvaged Refusal
  pub salvages : Salvages book old answer new
  pub result_is : result ≡ salvage_returned answer
