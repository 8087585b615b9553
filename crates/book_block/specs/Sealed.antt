-- The bytes of each kind of block, made from what stands in it, and its check stored in a room.
use Rattle.std.specs.Prelude.{ℕ, ◌+◌, ◌/◌, ◌%◌, true, false, List, [], ◌∷◌, ◌++◌, length, drop, replicate, nat_le}
use Rattle.std.proofs.lemmas.List.Edits.{sets}
use Rattle.book_block.specs.Check.{check}

-- "16-bit numbers, low byte first"
unfoldable pub bytes16 : ℕ → List ℕ
bytes16 x = (x % 256) ∷ (x / 256) ∷ []

-- the two numbers of a block's check, as they are stored
unfoldable pub check_bytes : List ℕ → List ℕ
check_bytes bytes = bytes16 (check bytes).s ++ bytes16 (check bytes).t

-- "bytes 508 to 509 and 510 to 511 hold two 16-bit numbers": the check of the bytes before them
unfoldable pub sealed : List ℕ → List ℕ
sealed bytes = bytes ++ check_bytes bytes

-- "Head: byte 0 is n, byte 1 is m, bytes 2 to 507 zero."
unfoldable pub head_block : ℕ → ℕ → List ℕ
head_block n m = sealed (n ∷ m ∷ replicate 506 0)

-- "Setting block": its 256 table bytes, "and bytes 256 to 507 are zero"
unfoldable pub setting_block : List ℕ → List ℕ
setting_block tables = sealed (tables ++ replicate 252 0)

-- a room with the check of the block that begins at byte `at`; the room as it was where there is no whole block
unfoldable pub sealed_at : List ℕ → ℕ → List ℕ
sealed_at room at = elim (nat_le (at + 512) (length room)) [ true ↦ sets room (at + 508) (check_bytes (drop at room)) | false ↦ room ]
