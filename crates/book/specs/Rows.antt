-- The rows of the table of numbered refusals that reading and writing a book can meet, and their order.
use Rattle.std.specs.Prelude.{◌≡◌, List, [], ◌∷◌, ◌++◌, ℕ, ◌+◌, ◌-◌, ◌*◌, ◌≤◌, ◌<◌, length}
use Rattle.ground.specs.Bounds.{SettingsFit, PostsFit}
use Rattle.refusal.specs.declared.Refusal.TheVariants.{Settings, BookLength, Head, StrayBit, Room}
use Rattle.refusal.specs.Order.{Row, when, lowest}
use Rattle.book_block.specs.Kinds.{Tables}
use Rattle.book_sound.specs.Sound.{tables_of}
use Rattle.book_sound.specs.Rows.{settings_of, book_rows}

-- "Book reading: 6, 7 (lowest block), 8, 9 (lowest), 15."
unfoldable pub read_rows : List ℕ → List ℕ → List Row
read_rows book room = book_rows book ++ (when (length room < 256 * settings_of book) Room ∷ [])

-- "Writing: 5, 8 (m only), 6, 9, 15."
unfoldable pub write_rows : ℕ → ℕ → List ℕ → List ℕ → List Row
write_rows n m rights room =
    when (SettingsFit n → ⊥) Settings
    ∷ when (PostsFit m → ⊥) Head
    ∷ when (length rights ≡ 256 * n → ⊥) BookLength
    ∷ lowest StrayBit (λ k. (1 ≤ k) × (k ≤ n) × (Tables n m (tables_of rights (k - 1)) → ⊥))
    ∷ when (length room < 512 * (1 + n)) Room
    ∷ []
