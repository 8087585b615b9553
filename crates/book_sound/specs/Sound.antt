-- What a sound book is, and its rights.
use Rattle.std.specs.Prelude.{◌≡◌, List, [], ◌++◌, ℕ, zero, suc, ◌+◌, ◌*◌, ◌<◌, length, take, drop}
use Rattle.ground.specs.Bounds.{SettingsFit, PostsFit}
use Rattle.book_block.specs.Check.{block, RightCheck}
use Rattle.book_block.specs.Kinds.{Head, SettingBlock}

-- "Blocks of 512 bytes: one head, then one per setting in order, so 512 × (1 + n)", each with its check
pub record Sound (book : List ℕ) (n m : ℕ) : Type 0 where
  pub settings : SettingsFit n
  pub posts : PostsFit m
  pub size : length book ≡ 512 * (1 + n)
  pub checks : (k : ℕ) → k < 1 + n → RightCheck (block book k)
  pub head : Head n m (block book 0)
  pub setting : (i : ℕ) → i < n → SettingBlock n m (block book (1 + i))

-- n lists of bytes "in order", one after the other
unfoldable pub in_order : (ℕ → List ℕ) → ℕ → List ℕ
in_order f zero = []
in_order f (suc i) = in_order f i ++ f i

-- "Rights in memory are the n × 256 table bytes": those of the first n settings of a book
unfoldable pub rights_of : List ℕ → ℕ → List ℕ
rights_of book n = in_order (λ i. take 256 (block book (1 + i))) n

-- the 256 table bytes of setting i
unfoldable pub tables_of : List ℕ → ℕ → List ℕ
tables_of rights i = take 256 (drop (256 * i) rights)
