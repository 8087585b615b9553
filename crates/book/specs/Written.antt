-- The bytes of a book, made from its numbers and rights.
use Rattle.std.specs.Prelude.{◌≡◌, List, ◌++◌, ℕ, ◌*◌, ◌<◌, length}
use Rattle.ground.specs.Bounds.{SettingsFit, PostsFit}
use Rattle.book_block.specs.Kinds.{Tables}
use Rattle.book_block.specs.Sealed.{head_block, setting_block}
use Rattle.book_sound.specs.Sound.{in_order, tables_of}

-- "one per setting in order": the blocks of the first n settings
unfoldable pub setting_blocks : List ℕ → ℕ → List ℕ
setting_blocks rights n = in_order (λ i. setting_block (tables_of rights i)) n

-- "one head, then one per setting in order"
unfoldable pub book_of : ℕ → ℕ → List ℕ → List ℕ
book_of n m rights = head_block n m ++ setting_blocks rights n

-- what the writer takes: numbers in their bounds, 256 × n bytes, no bit that must be zero
pub record Writable (n m : ℕ) (rights : List ℕ) : Type 0 where
  pub settings : SettingsFit n
  pub posts : PostsFit m
  pub size : length rights ≡ 256 * n
  pub tables : (i : ℕ) → i < n → Tables n m (tables_of rights i)
