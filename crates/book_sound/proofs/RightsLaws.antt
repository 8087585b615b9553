-- How long the tables of a setting are, and the rights of a book.
use mathlib.Core.Path.{◌≡◌, ap, ◌∙◌}
use mathlib.Core.List.{List}
use Prim.Native.Nat.{ℕ, ◌+◌, ◌*◌, ◌≤◌}
use native.Mathlib.Omega.{arith}
use lib.Dec.{lit≤}
use lib.ListN.{length, take, drop}
use lib.Seq.{take-take}
use Rattle.book_block.specs.Check.{block}
use Rattle.book_sound.specs.Sound.{rights_of, tables_of}
use Rattle.ground.proofs.Lists.{length_part}
use Rattle.book_sound.proofs.InOrder.{length-in_order}

pub length-tables : (rights : List ℕ) (i : ℕ) → 256 * (1 + i) ≤ length rights → length (tables_of rights i) ≡ 256
unfolding tables_of
length-tables rights i h = length_part rights (256 * i) 256 (omega arith)

pub tables-block : (book : List ℕ) (k : ℕ) → take 256 (block book k) ≡ take 256 (drop (512 * k) book)
unfolding block
tables-block book k = take-take 256 512 (drop (512 * k) book) (lit≤ tt)

-- the tables of setting i in a book that has its block
pub length-table_part : (book : List ℕ) (i : ℕ) → 512 * (1 + i) + 256 ≤ length book → length (take 256 (block book (1 + i))) ≡ 256
length-table_part book i h = ap length (tables-block book (1 + i)) ∙ length_part book (512 * (1 + i)) 256 h

pub length_rights : (book : List ℕ) (n : ℕ) → 512 * (1 + n) ≤ length book → length (rights_of book n) ≡ 256 * n
unfolding rights_of
length_rights book n h = length-in_order _ 256 n (λ i k. length-table_part book i (omega arith))
