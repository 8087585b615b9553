-- The rows of the table of numbered refusals that a book can meet, and their order.
use Rattle.std.specs.Prelude.{◌≡◌, List, [], ◌∷◌, ℕ, ◌-◌, ◌/◌, ◌%◌, ◌≤◌, ◌<◌, length, get_or}
use Rattle.ground.specs.Bounds.{PostsFit}
use Rattle.refusal.specs.declared.Refusal.TheVariants.{BookLength, Check, Head as WrongHead, StrayBit}
use Rattle.refusal.specs.Order.{Row, when, lowest}
use Rattle.book_block.specs.Check.{block, RightCheck}
use Rattle.book_block.specs.Kinds.{Head, SettingBlock}

-- "Blocks of 512 bytes": how many whole ones
unfoldable pub blocks : List ℕ → ℕ
blocks book = length book / 512

-- the negation of 6: "2 to 8 whole blocks"
pub record Whole (book : List ℕ) : Type 0 where
  pub whole : length book % 512 ≡ 0
  pub least : 2 ≤ blocks book
  pub most : blocks book ≤ 8

-- the n and the m that the rows after 6 speak of: "blocks − 1", and what the head says
unfoldable pub settings_of : List ℕ → ℕ
settings_of book = blocks book - 1

unfoldable pub posts_of : List ℕ → ℕ
posts_of book = get_or (block book 0) 1 0

-- the negation of 8: "head's n not blocks − 1, m outside 1 to 8, or other head byte not 0"
pub record RightHead (book : List ℕ) : Type 0 where
  pub head : Head (settings_of book) (posts_of book) (block book 0)
  pub posts : PostsFit (posts_of book)

-- "the book's 6 to 9", in the order of reading: "6, 7 (lowest block), 8, 9 (lowest)"
unfoldable pub book_rows : List ℕ → List Row
book_rows book =
    when (Whole book → ⊥) BookLength
    ∷ lowest Check (λ k. (k < blocks book) × (RightCheck (block book k) → ⊥))
    ∷ when (RightHead book → ⊥) WrongHead
    ∷ lowest StrayBit (λ k. (1 ≤ k) × (k ≤ settings_of book) × (SettingBlock (settings_of book) (posts_of book) (block book k) → ⊥))
    ∷ []
