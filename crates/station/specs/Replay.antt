-- "Given a book and a true starting valuation, play the acts on the real settings [..] Give the count of acts done, the valuation they leave, and the first act
-- that the station's rules did not allow". What `replay` answers, for every book, starting valuation and shift.
use Rattle.std.specs.Prelude.{◌≡◌, List, [], ◌∷◌, ◌++◌, ℕ, ◌%◌, ◌^◌, ◌<◌, length, Result, Ok, Err}
use Rattle.refusal.specs.declared.Refusal.{Refusal}
use Rattle.refusal.specs.declared.Refusal.TheVariants.{Shift}
use Rattle.refusal.specs.Order.{Row, when, First}
use Rattle.book_sound.specs.Sound.{Sound}
use Rattle.book_sound.specs.Rows.{settings_of, book_rows}
use Rattle.station.specs.declared.shift.Replayed.{Replayed}
use Rattle.station.specs.declared.shift.Replayed.TheVariants.{Whole, Stopped}
use Rattle.station.specs.Shift.{records, Reached, StopsAt}

-- 26 denies this: "odd length or a starting valuation not below 2^n"
pub record ShiftFits (n start : ℕ) (shift : List ℕ) : Type 0 where
  pub even : length shift % 2 ≡ 0
  pub below : start < 2 ^ n

-- "Refusals, after the book's: 26"
unfoldable pub replay_rows : List ℕ → ℕ → List ℕ → List Row
replay_rows book start shift = book_rows book ++ (when (ShiftFits (settings_of book) start shift → ⊥) Shift ∷ [])

-- the answer to a shift that is played: all its acts were done; or the next record is at fault
abbrev pub Plays : ℕ → ℕ → List ℕ → ℕ → List ℕ → Replayed → Type 0
Plays n m book start shift (Whole running) = Reached n m book start shift running × (running.count ≡ records shift)
Plays n m book start shift (Stopped why running) = Reached n m book start shift running × StopsAt n m book shift running why

-- a sound book of n settings and m posts, a shift that can be played, and the answer to it
pub record PlaysAs (book : List ℕ) (start : ℕ) (shift : List ℕ) (answer : Replayed) : Type 0 where
  pub n : ℕ
  pub m : ℕ
  pub sound : Sound book n m
  pub fits : ShiftFits n start shift
  pub plays : Plays n m book start shift answer

-- a refusal before any record is read gives no count and no valuation
abbrev pub Replays : List ℕ → ℕ → List ℕ → Result Replayed Refusal → Type 0
Replays book start shift (Ok answer) = PlaysAs book start shift answer
Replays book start shift (Err why) = First (replay_rows book start shift) why
