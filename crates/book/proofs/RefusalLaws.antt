-- Each way out of `read` and of the writer's judgement is the first refusal in the order or none: what was tested before shows that the rows before
-- are not given.
use mathlib.Core.Path.{◌≡◌, sym, subst}
use mathlib.Core.List.{List}
use Prim.Native.Nat.{ℕ, ◌+◌, ◌-◌, ◌*◌, ◌≤◌, ◌<◌}
use native.Mathlib.Omega.{arith}
use lib.ListN.{length, get_or, drop}
use lib.Seq.{get_or-take}
use Rattle.ground.specs.Bounds.{SettingsFit, PostsFit}
use Rattle.ground.specs.Search.{LowestAt}
use Rattle.ground.proofs.Answers.{lowest-map}
use Rattle.refusal.specs.declared.Refusal.{Refusal}
use Rattle.refusal.specs.declared.Refusal.TheVariants.{Settings, BookLength, Head, StrayBit, Room}
use Rattle.refusal.specs.Order.{First, Clear}
use Rattle.refusal.proofs.OrderLaws.{first-when, first-lowest, first_past, first-later-lowest, first-left, first-right, clear-append, clear_none, clear-when}
use Rattle.book_block.specs.Kinds.{Tables}
use Rattle.book_block.proofs.BlockLaws.{tables-same}
use Rattle.book_sound.specs.Sound.{Sound, tables_of}
use Rattle.book_sound.specs.Rows.{book_rows}
use Rattle.book_sound.proofs.BlockRows.{least-block, none-block, down}
use Rattle.book_sound.proofs.SoundLaws.{sound-settings, sound-clear}
use Rattle.book.specs.Rows.{read_rows, write_rows}

-- ---- of the reader: what `sound` found, and then the room

pub no_book : (book room : List ℕ) {r : Refusal} → First (book_rows book) r → First (read_rows book room) r
unfolding read_rows
no_book book room f = first-left _ f

pub no_room : {book : List ℕ} (room : List ℕ) {n m : ℕ} → Sound book n m → length room < 256 * n → First (read_rows book room) Room
unfolding read_rows
no_room {book} room sound short = first-right (sound-clear sound) (first-when (rw (sound-settings sound) short))

pub read-clear : {book : List ℕ} (room : List ℕ) {n m : ℕ} → Sound book n m → 256 * n ≤ length room → Clear (read_rows book room)
unfolding read_rows
read-clear {book} room {n} sound h =
    clear-append (sound-clear sound)
    (clear-when (λ short. let s : length room < 256 * n = rw (sound-settings sound) at short in omega arith) clear_none)

-- ---- of the writer

-- the tables of setting i begin at byte 256 × i of the rights
tables-byte : (rights : List ℕ) (i j : ℕ) → j < 256 → get_or (tables_of rights i) j 0 ≡ get_or (drop (256 * i) rights) j 0
unfolding tables_of
tables-byte rights i j h = get_or-take 256 (drop (256 * i) rights) j 0 h

pub tables-there : {n m : ℕ} (rights : List ℕ) (i : ℕ) → Tables n m (drop (256 * i) rights) → Tables n m (tables_of rights i)
tables-there {n} {m} rights i = tables-same n m _ _ (λ j h. sym (tables-byte rights i j h))

pub tables-here : {n m : ℕ} (rights : List ℕ) (i : ℕ) → Tables n m (tables_of rights i) → Tables n m (drop (256 * i) rights)
tables-here {n} {m} rights i = tables-same n m _ _ (tables-byte rights i)

module _ (n m : ℕ) (rights room : List ℕ) where
  pub refuse_settings : (SettingsFit n → ⊥) → First (write_rows n m rights room) Settings
  unfolding write_rows
  refuse_settings never = first-when never

  module _ (settings : SettingsFit n) where
    pub refuse_posts : (PostsFit m → ⊥) → First (write_rows n m rights room) Head
    unfolding write_rows
    refuse_posts never = first_past settings (first-when never)

    module _ (posts : PostsFit m) where
      pub refuse_size : (length rights ≡ 256 * n → ⊥) → First (write_rows n m rights room) BookLength
      unfolding write_rows
      refuse_size never = first_past settings (first_past posts (first-when never))

      module _ (size : length rights ≡ 256 * n) where
        pub refuse_tables : {r : ℕ} → LowestAt n (λ i. Tables n m (tables_of rights i)) r → First (write_rows n m rights room) (StrayBit (1 + r))
        unfolding write_rows
        refuse_tables low =
            first_past settings
            (first_past posts
            (first_past size
            (first-lowest
            (least-block (λ k. Tables n m (tables_of rights (k - 1)))
            (lowest-map
            (λ i _ t. subst (λ x. Tables n m (tables_of rights x)) (sym (down i)) t)
            (λ i _ t. subst (λ x. Tables n m (tables_of rights x)) (down i) t)
            low)))))

        module _ (all : (i : ℕ) → i < n → Tables n m (tables_of rights i)) where
          pub refuse_room : length room < 512 * (1 + n) → First (write_rows n m rights room) Room
          unfolding write_rows
          refuse_room short =
              first_past settings
              (first_past posts
              (first_past size
              (first-later-lowest
              (none-block (λ k. Tables n m (tables_of rights (k - 1))) (λ i h. subst (λ x. Tables n m (tables_of rights x)) (sym (down i)) (all i h)))
              (first-when short))))
