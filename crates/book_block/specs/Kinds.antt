-- The two kinds of block, by what stands before the check: the head, and the block of a setting.
use Rattle.std.specs.Prelude.{◌≡◌, ℕ, ◌<◌, ◌≤◌, List, slice_index, slice_index_or}
use Rattle.ground.specs.Table.{Within}
use Rattle.book_block.specs.declared.rule.Right.{Right}
use Rattle.book_block.specs.Rule.{table}

-- bytes from one place up to another are "zero"
unfoldable pub Zeros : ℕ → ℕ → List ℕ → Type 0
Zeros from to bytes = (j : ℕ) → from ≤ j → j < to → slice_index bytes j ≡ 0

-- "Head: byte 0 is n, byte 1 is m, bytes 2 to 507 zero."
pub record Head (n m : ℕ) (bytes : List ℕ) : Type 0 where
  pub settings : slice_index_or bytes 0 0 ≡ n
  pub posts : slice_index_or bytes 1 0 ≡ m
  pub rest : Zeros 2 508 bytes

-- "Tables of posts that don't exist, bits past 2^n [..] are zero": of a setting's 256 table bytes
pub record Tables (n m : ℕ) (bytes : List ℕ) : Type 0 where
  pub nobody : (q : ℕ) (right : Right) → m ≤ q → q < 8 → Zeros 0 16 (table bytes q right)
  pub within : (q : ℕ) (right : Right) → q < 8 → Within n (table bytes q right)

-- "Setting block: [..] and bytes 256 to 507 are zero."
pub record SettingBlock (n m : ℕ) (bytes : List ℕ) : Type 0 where
  pub tables : Tables n m bytes
  pub rest : Zeros 256 508 bytes
