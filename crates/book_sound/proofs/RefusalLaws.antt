-- Each way out of `sound` is the first refusal in the order or none: what was tested before shows that the rows before are not given.
use mathlib.Core.Path.{◌≡◌, sym, subst}
use mathlib.Core.List.{List}
use Rattle.std.specs.Prelude.{Option}
use Prim.Native.Nat.{ℕ, ◌+◌, ◌-◌, ◌*◌, ◌≤◌, ◌<◌}
use native.Mathlib.Omega.{arith}
use lib.Dec.{lit<}
use lib.ListN.{length, get_or}
use Rattle.ground.specs.Search.{LowestAt, Lowest}
use Rattle.refusal.specs.declared.Refusal.TheVariants.{BookLength, Check, Head as WrongHead, StrayBit}
use Rattle.refusal.specs.Order.{First}
use Rattle.refusal.proofs.OrderLaws.{first-when, first-lowest, first_past, first-later-lowest}
use Rattle.book_block.specs.Check.{block, RightCheck}
use Rattle.book_block.specs.Kinds.{SettingBlock}
use Rattle.book_sound.specs.Rows.{blocks, Whole, settings_of, posts_of, RightHead, book_rows}
use Rattle.book_sound.specs.Sound.{Sound}
use Rattle.book_sound.proofs.BookLaws.{whole_length, first_byte, head-settings}
use Rattle.book_sound.proofs.BlockRows.{least-block}

-- setting i of the book has a block as it must be
abbrev pub Settings : List ℕ → ℕ → Type 0
Settings book i = SettingBlock (settings_of book) (posts_of book) (block book (1 + i))

module _ (book : List ℕ) where
  pub refuse_length : (Whole book → ⊥) → First (book_rows book) BookLength
  unfolding book_rows
  refuse_length never = first-when never

  module _ (whole : Whole book) where
    pub refuse_check : {r : ℕ} → LowestAt (blocks book) (λ k. RightCheck (block book k)) r → First (book_rows book) (Check r)
    unfolding book_rows
    refuse_check low =
        first_past whole (first-lowest (record { here = (low.within, low.here); none_below = λ k l g. g.1 (low.before k l) }))

    module _ (checks : (k : ℕ) → k < blocks book → RightCheck (block book k)) where
      pub refuse_head : (RightHead book → ⊥) → First (book_rows book) WrongHead
      unfolding book_rows
      refuse_head never = first_past whole (first-later-lowest (λ k g. g.1 (checks k g.0)) (first-when never))

      module _ (head : RightHead book) where
        pub refuse_stray : {r : ℕ} → LowestAt (settings_of book) (Settings book) r → First (book_rows book) (StrayBit (1 + r))
        unfolding book_rows
        refuse_stray low =
            first_past whole
            (first-later-lowest (λ k g. g.1 (checks k g.0))
            (first_past head (first-lowest (least-block (λ k. SettingBlock (settings_of book) (posts_of book) (block book k)) low))))

        pub is-sound : ((i : ℕ) → i < settings_of book → Settings book i) → Sound book (settings_of book) (posts_of book)
        unfolding settings_of
        is-sound all =
            let w : (length book ≡ 512 * blocks book) × (2 ≤ blocks book) × (blocks book ≤ 8) = whole_length whole in
            record {
              settings = record { least = omega arith; most = omega arith };
              posts = head.posts;
              size = omega arith;
              checks = λ k h. checks k (omega arith);
              head = head.head;
              setting = all;
            }

-- ---- the numbers that the head says are those of the book

module _ {book : List ℕ} (right : RightHead book) where
  pub head-n : get_or book 0 0 ≡ settings_of book
  unfolding settings_of blocks
  head-n = head-settings right

  pub head-m : get_or book 1 0 ≡ posts_of book
  unfolding posts_of
  head-m = sym (first_byte book 1 (lit< tt))

  pub stray_blocks : (o : Option ℕ) → Lowest (get_or book 0 0) (λ i. SettingBlock (get_or book 0 0) (get_or book 1 0) (block book (1 + i))) o
      → Lowest (settings_of book) (Settings book) o
  stray_blocks o low =
      subst (λ n. Lowest n (λ i. SettingBlock n (posts_of book) (block book (1 + i))) o) head-n
      (subst (λ m. Lowest (get_or book 0 0) (λ i. SettingBlock (get_or book 0 0) m (block book (1 + i))) o) head-m low)

  pub sound-head : Sound book (settings_of book) (posts_of book) → Sound book (get_or book 0 0) (get_or book 1 0)
  sound-head s =
      subst (λ n. Sound book n (get_or book 1 0)) (sym head-n)
      (subst (λ m. Sound book (settings_of book) m) (sym head-m) s)

  pub head-n-most : Whole book → (get_or book 0 0 ≤ 7) × (get_or book 0 0 + 1 ≡ blocks book)
  unfolding settings_of
  head-n-most w =
      let l : (length book ≡ 512 * blocks book) × (2 ≤ blocks book) × (blocks book ≤ 8) = whole_length w in
      let e : get_or book 0 0 ≡ blocks book - 1 = head-n in
      (omega arith, omega arith)
