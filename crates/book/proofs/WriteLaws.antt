-- What the stores of the writer and the copies of the reader add up to: each is a run of bytes that goes on where the last one ended. And how
-- long a written book is.
use mathlib.Core.Path.{◌≡◌, sym, ap, ◌∙◌}
use mathlib.Core.List.{List}
use Prim.Native.Nat.{ℕ, ◌+◌, ◌*◌, ◌≤◌}
use native.Mathlib.Nat.{zero-add}
use native.Mathlib.Omega.{arith}
use lib.ListN.{length, take, drop}
use lib.Seq.{sets}
use Rattle.book_block.specs.Check.{block}
use Rattle.book_block.specs.Sealed.{head_block, setting_block}
use Rattle.book_sound.specs.Sound.{rights_of, tables_of}
use Rattle.book.specs.Written.{setting_blocks, book_of}
use Rattle.book_block.proofs.BlockLaws.{length-head, length-setting}
use Rattle.book_sound.proofs.Laid.{lay_on, length-laid}
use Rattle.book_sound.proofs.RightsLaws.{length-tables, tables-block, length-table_part}

-- ---- the settings, one after the other

module _ (rights : List ℕ) where
  -- the block of each setting that the rights have
  pub length-written : (i : ℕ) → 256 * (1 + i) ≤ length rights → length (setting_block (tables_of rights i)) ≡ 512
  length-written i h = length-setting (tables_of rights i) (length-tables rights i h)

  pub settings-step : (l r₁ r₂ : List ℕ) (i : ℕ) → 256 * i ≤ length rights → r₁ ≡ sets l 512 (setting_blocks rights i)
      → r₂ ≡ sets r₁ (512 * (1 + i)) (setting_block (tables_of rights i)) → r₂ ≡ sets l 512 (setting_blocks rights (i + 1))
  unfolding setting_blocks
  settings-step l r₁ r₂ i h p q =
      lay_on (λ k. setting_block (tables_of rights k)) 512 l r₁ r₂ 512 (512 * (1 + i)) i (λ k b. length-written k (omega arith)) (omega arith) p q

pub length_book : (n m : ℕ) (rights : List ℕ) → length rights ≡ 256 * n → length (book_of n m rights) ≡ 512 * (1 + n)
unfolding book_of setting_blocks
length_book n m rights e =
    length-laid (head_block n m) (λ i. setting_block (tables_of rights i)) n (length-head n m) (λ i k. length-written rights i (omega arith))

-- ---- the rights of a book

pub rights_step : (book l r₁ r₂ : List ℕ) (i : ℕ) → 512 * (1 + i) ≤ length book → r₁ ≡ sets l 0 (rights_of book i)
    → r₂ ≡ sets r₁ (256 * i) (take 256 (drop (512 * (1 + i)) book)) → r₂ ≡ sets l 0 (rights_of book (i + 1))
unfolding rights_of
rights_step book l r₁ r₂ i h p q =
    lay_on (λ k. take 256 (block book (1 + k))) 256 l r₁ r₂ 0 (256 * i) i (λ k b. length-table_part book k (omega arith)) (zero-add _) p
    (q ∙ ap (sets r₁ (256 * i)) (sym (tables-block book (1 + i))))
