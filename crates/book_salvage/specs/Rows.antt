-- The rows of the table of numbered refusals that a salvage can meet, and their order.
use Rattle.std.specs.Prelude.{List, [], ◌∷◌, ℕ, ◌<◌, length}
use Rattle.refusal.specs.declared.Refusal.TheVariants.{BookLength, SalvageHead, Room}
use Rattle.refusal.specs.Order.{Row, when}
use Rattle.book_block.specs.Check.{block, RightCheck}
use Rattle.book_sound.specs.Rows.{Whole, RightHead}

-- 30 denies this: "when the head block fails its check or 8"
pub record HeadStands (book : List ℕ) : Type 0 where
  pub check : RightCheck (block book 0)
  pub says : RightHead book

-- "Refusals: 6, then 30 when the head block fails its check or 8, then 15." The room is too short below the book's length.
unfoldable pub salvage_rows : List ℕ → List ℕ → List Row
salvage_rows book room =
    when (Whole book → ⊥) BookLength
    ∷ when (HeadStands book → ⊥) SalvageHead
    ∷ when (length room < length book) Room
    ∷ []
