-- Text into a lent room from a place on: as much of it as fits, and the place after it.
use Rattle.std.specs.Prelude.{◌≡◌, List, ℕ, ◌+◌, ◌^◌, ◌<◌, length}
use Rattle.std.proofs.lemmas.List.Edits.{sets}

-- the place after the text is a number of the machine
pub record Ends (to : ℕ) (text : List ℕ) : Type 0 where
  pub below : to + length text < 2 ^ 64

-- the text was written from a place on, as far as the room goes, and next is the place after it
pub record Wrote (old : List ℕ) (to : ℕ) (text new : List ℕ) (next : ℕ) : Type 0 where
  pub room : new ≡ sets old to text
  pub next_place : next ≡ to + length text
