-- From a book to its rights and back, and from rights to their book and back: block by block, by the laws of one block.
use mathlib.Core.Path.{◌≡◌, sym, ap, ap₂, ◌∙◌, subst}
use mathlib.Core.List.{List, ◌++◌}
use Prim.Native.Nat.{ℕ, ◌+◌, ◌*◌, ◌<◌}
use native.Mathlib.Omega.{arith}
use lib.ListN.{length, get_or, take}
use lib.Seq.{take_all, get_or-take}
use Rattle.book_block.specs.Check.{block}
use Rattle.book_block.specs.Kinds.{Tables}
use Rattle.book_sound.specs.Sound.{Sound, rights_of, tables_of}
use Rattle.book_block.specs.Sealed.{head_block, setting_block}
use Rattle.book.specs.Written.{setting_blocks, book_of, Writable}
use Rattle.ground.proofs.Lists.{get_d_part, length_part}
use Rattle.book_sound.proofs.InOrder.{part_in_order, in_order-same, in_order_parts}
use Rattle.book_sound.proofs.Laid.{laid-setting, laid-sound, laid-again}
use Rattle.book_block.proofs.BlockLaws.{length-head, length-setting, head-sealed, setting-sealed, tables-same, head-right, head-head, setting-right, setting-setting, setting-tables}
use Rattle.book_sound.proofs.RightsLaws.{length-tables, length_rights, length-table_part}

-- ---- a book, its rights, and the book again

module _ {book : List ℕ} {n m : ℕ} (byte : (j : ℕ) → get_or book j 0 < 256) (sound : Sound book n m) where
  block-length : (k : ℕ) → k < 1 + n → length (block book k) ≡ 512
  unfolding block
  block-length k h = length_part book (512 * k) 512 (omega (arith, sound.size))

  block-bytes : (k j : ℕ) → j < 512 → get_or (block book k) j 0 < 256
  unfolding block
  block-bytes k j h = rw (get_d_part book (512 * k) 512 j h) (byte (512 * k + j))

  -- the tables of setting i, in the rights
  pub read-tables : (i : ℕ) → i < n → tables_of (rights_of book n) i ≡ take 256 (block book (1 + i))
  unfolding tables_of rights_of
  read-tables i h = part_in_order _ 256 n (λ k b. length-table_part book k (omega (arith, sound.size))) i h

  again-setting : (i : ℕ) → i < n → setting_block (tables_of (rights_of book n) i) ≡ block book (1 + i)
  again-setting i h =
      ap setting_block (read-tables i h)
      ∙ sym (setting-sealed (block book (1 + i)) (block-length (1 + i) (omega arith)) (block-bytes (1 + i)) (sound.checks (1 + i) (omega arith)) (sound.setting i h))

  pub book_again : book_of n m (rights_of book n) ≡ book
  unfolding book_of setting_blocks
  book_again =
      ap₂ ◌++◌
      (sym (head-sealed (block book 0) (block-length 0 (omega arith)) (block-bytes 0) (sound.checks 0 (omega arith)) sound.head))
      (in_order-same _ (λ i. block book (1 + i)) n again-setting)
      ∙ laid-again book n sound.size

  -- what was read may be written
  pub read_writable : Writable n m (rights_of book n)
  read_writable =
      record {
        settings = sound.settings;
        posts = sound.posts;
        size = length_rights book n (omega (arith, sound.size));
        tables = λ i h.
            subst (Tables n m) (sym (read-tables i h))
            (tables-same n m (block book (1 + i)) _ (λ j k. sym (get_or-take 256 (block book (1 + i)) j 0 k)) (sound.setting i h).tables);
      }

-- ---- rights, their book, and the rights again

module _ {n m : ℕ} {rights : List ℕ} (good : Writable n m rights) where
  tables_fit : (i : ℕ) → i < n → length (tables_of rights i) ≡ 256
  tables_fit i h = length-tables rights i (omega (arith, good.size))

  blocks_fit : (i : ℕ) → i < n → length (setting_block (tables_of rights i)) ≡ 512
  blocks_fit i h = length-setting (tables_of rights i) (tables_fit i h)

  pub written-setting : (i : ℕ) → i < n → block (book_of n m rights) (1 + i) ≡ setting_block (tables_of rights i)
  unfolding book_of setting_blocks
  written-setting = laid-setting (head_block n m) (λ i. setting_block (tables_of rights i)) n (length-head n m) blocks_fit

  pub written-sound : Sound (book_of n m rights) n m
  unfolding book_of setting_blocks
  written-sound =
      laid-sound (head_block n m) (λ i. setting_block (tables_of rights i)) n (length-head n m) blocks_fit good.settings good.posts
      (head-right n m) (head-head n m)
      (λ i h. setting-right (tables_of rights i) (tables_fit i h))
      (λ i h. setting-setting (tables_of rights i) (tables_fit i h) (good.tables i h))

  pub rights_again : rights_of (book_of n m rights) n ≡ rights
  unfolding rights_of tables_of
  rights_again =
      in_order-same _ (tables_of rights) n
      (λ i h. ap (take 256) (written-setting i h) ∙ setting-tables (tables_of rights i) (tables_fit i h))
      ∙ in_order_parts rights 256 n
      ∙ take_all (256 * n) rights (omega (arith, good.size))
