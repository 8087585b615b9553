-- What a sound book gives: none of 6 to 9, and its two numbers.
use mathlib.Core.Path.{◌≡◌, subst}
use mathlib.Core.List.{List}
use Rattle.std.specs.Prelude.{Result, Ok}
use Prim.Native.Nat.{ℕ, ◌+◌, ◌<◌}
use native.Mathlib.Omega.{arith}
use Rattle.refusal.specs.declared.Refusal.{Refusal}
use Rattle.refusal.specs.Order.{Clear}
use Rattle.refusal.proofs.OrderLaws.{clear_none, clear-past, clear-lowest}
use Rattle.book_block.specs.Check.{block}
use Rattle.book_block.specs.Kinds.{SettingBlock}
use Rattle.book_sound.specs.declared.Size.{Size}
use Rattle.book_sound.specs.Rows.{blocks, Whole, settings_of, posts_of, RightHead, book_rows}
use Rattle.book_sound.specs.Sound.{Sound}
use Rattle.book_sound.specs.Promise.{Judges}
use Rattle.book_sound.proofs.BlockRows.{none-block}

module _ {book : List ℕ} {n m : ℕ} (sound : Sound book n m) where
  pub sound-blocks : blocks book ≡ 1 + n
  unfolding blocks
  sound-blocks = omega (arith, sound.size)

  pub sound-settings : settings_of book ≡ n
  unfolding settings_of
  sound-settings = omega (arith, sound-blocks)

  pub sound-posts : posts_of book ≡ m
  unfolding posts_of
  sound-posts = sound.head.posts

  pub sound-whole : Whole book
  sound-whole =
      record {
        whole = omega (arith, sound.size);
        least = omega (arith, sound-blocks, sound.settings.least);
        most = omega (arith, sound-blocks, sound.settings.most);
      }

  pub sound-head-right : RightHead book
  sound-head-right =
      record {
        head = rw (sound-settings, sound-posts) sound.head;
        posts = rw sound-posts sound.posts;
      }

  -- a sound book meets none of 6 to 9
  pub sound-clear : Clear (book_rows book)
  unfolding book_rows
  sound-clear =
      clear-past sound-whole
      (clear-lowest (λ k g. g.1 (sound.checks k (subst (λ x. k < x) sound-blocks g.0)))
      (clear-past sound-head-right
      (clear-lowest
      (none-block (λ k. SettingBlock (settings_of book) (posts_of book) (block book k))
      (λ i h. rw (sound-settings, sound-posts) (sound.setting i (subst (λ x. i < x) sound-settings h))))
      clear_none)))

-- ---- what `sound` found, where its answer is Ok

pub judged_book : (book : List ℕ) (answer : Result Size Refusal) (size : Size) → Judges book answer → answer ≡ Ok size → Sound book size.settings size.posts
judged_book book answer size j e = subst (Judges book) e j
