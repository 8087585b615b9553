-- "Blocks of 512 bytes [..] In each, bytes 508 to 509 and 510 to 511 hold two 16-bit numbers, low byte first: start with s = 1, t = 0; for each of
-- bytes 0 to 507 add it to s, then add s to t, both keeping only the low 16 bits."
use Rattle.std.specs.Prelude.{◌≡◌, ℕ, zero, suc, ◌+◌, ◌*◌, ◌%◌, ◌^◌, List, take, drop, slice_index}
use Rattle.book_block.specs.declared.sums.Sums.{Sums}

-- "Blocks of 512 bytes": block k
unfoldable pub block : List ℕ → ℕ → List ℕ
block book k = take 512 (drop (512 * k) book)

-- "add it to s, then add s to t, both keeping only the low 16 bits"
unfoldable pub added : Sums → ℕ → Sums
added sums byte =
    let s = (sums.s + byte) % 2 ^ 16 in
    record { s = s; t = (sums.t + s) % 2 ^ 16 }

-- "start with s = 1, t = 0", and the sums after the first i bytes
unfoldable pub sums_after : List ℕ → ℕ → Sums
sums_after bytes zero = record { s = 1; t = 0 }
sums_after bytes (suc i) = added (sums_after bytes i) (slice_index bytes i)

-- "for each of bytes 0 to 507"
unfoldable pub check : List ℕ → Sums
check bytes = sums_after bytes 508

-- a 16-bit number, "low byte first", that begins at byte i
unfoldable pub number16 : List ℕ → ℕ → ℕ
number16 bytes i = slice_index bytes i + 256 * slice_index bytes (i + 1)

-- "bytes 508 to 509 and 510 to 511 hold" the check
pub record RightCheck (bytes : List ℕ) : Type 0 where
  pub holds_s : number16 bytes 508 ≡ (check bytes).s
  pub holds_t : number16 bytes 510 ≡ (check bytes).t
