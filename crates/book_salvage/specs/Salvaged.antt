-- "A setting block with a wrong check, or a set bit that must be zero, is replaced by a block with all rules closed and a right check; every sound
-- block stays byte for byte. It reports how many were replaced and a mark for each setting."
use Rattle.std.specs.Prelude.{true, false, not, List, ◌++◌, ℕ, zero, suc, ◌+◌, ◌^◌, ◌<◌, replicate}
use Rattle.ground.specs.Digits.{digit, bit}
use Rattle.ground.specs.Tells.{Tells}
use Rattle.book_block.specs.Check.{block, RightCheck}
use Rattle.book_block.specs.Kinds.{SettingBlock}
use Rattle.book_block.specs.Sealed.{setting_block}
use Rattle.book_sound.specs.Sound.{in_order}

-- a "sound block" of a setting stands: neither "a wrong check" nor "a set bit that must be zero"
pub record Stands (n m : ℕ) (bytes : List ℕ) : Type 0 where
  pub check : RightCheck bytes
  pub clean : SettingBlock n m bytes

-- "a block with all rules closed and a right check": its 256 table bytes are zero
unfoldable pub closed_block : List ℕ
closed_block = setting_block (replicate 256 0)

-- "a mark for each setting": bit i, for block i + 1, is off exactly where that block stands; no bit is set at or past n
pub record MarksOf (book : List ℕ) (n m marks : ℕ) : Type 0 where
  pub tells : (i : ℕ) → i < n → Tells (not (bit marks i)) (Stands n m (block book (1 + i)))
  pub within : marks < 2 ^ n

-- "how many were replaced": of the first k marks, those that are set
unfoldable pub ones : ℕ → ℕ → ℕ
ones zero marks = 0
ones (suc k) marks = ones k marks + digit 2 marks k

-- the block of setting i, "replaced" where it is marked, else as it "stays byte for byte"
unfoldable pub setting_after : List ℕ → ℕ → ℕ → List ℕ
setting_after book marks i = elim (bit marks i) [ true ↦ closed_block | false ↦ block book (1 + i) ]

-- the salvaged book: the head block as it is, then the block of each of n settings
unfoldable pub salvaged_book : List ℕ → ℕ → ℕ → List ℕ
salvaged_book book marks n = block book 0 ++ in_order (setting_after book marks) n
