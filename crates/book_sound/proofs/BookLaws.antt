-- Laws of a book as a whole: its head, and the bytes that `is_head` looks at.
use mathlib.Core.Path.{◌≡◌, refl, sym, ◌∙◌}
use mathlib.Core.List.{List}
use Prim.Native.Nat.{ℕ, ◌-◌, ◌*◌, ◌/◌, ◌≤◌, ◌<◌}
use native.Mathlib.Omega.{arith}
use lib.Dec.{lit<}
use lib.ListN.{length, get_or}
use Rattle.book_block.specs.Kinds.{Zeros}
use Rattle.book_sound.specs.Rows.{blocks, Whole, settings_of, posts_of, RightHead}
use Rattle.book_block.specs.Check.{block}
use Rattle.book_block.proofs.CheckLaws.{block-byte}

pub whole_length : {book : List ℕ} → Whole book → (length book ≡ 512 * blocks book) × (2 ≤ blocks book) × (blocks book ≤ 8)
unfolding blocks
whole_length {book} w = (omega (arith, w.whole), w.least, w.most)

-- the head block begins a book
pub first_byte : (book : List ℕ) (j : ℕ) → j < 512 → get_or (block book 0) j 0 ≡ get_or book j 0
first_byte book j h = block-byte book 0 j h

module _ {book : List ℕ} where
  pub right-head : get_or book 0 0 ≡ length book / 512 - 1 → 1 ≤ get_or book 1 0 → get_or book 1 0 ≤ 8 → Zeros 2 508 book → RightHead book
  unfolding settings_of posts_of blocks Zeros
  right-head n least most rest =
      record {
        head =
            record {
              settings = first_byte book 0 (lit< tt) ∙ n;
              posts = refl;
              rest = λ j l h. first_byte book j (omega arith) ∙ rest j l h;
            };
        posts = record { least = rw (first_byte book 1 (lit< tt)) least; most = rw (first_byte book 1 (lit< tt)) most };
      }

  pub head-settings : RightHead book → get_or book 0 0 ≡ length book / 512 - 1
  unfolding settings_of blocks
  head-settings r = sym (first_byte book 0 (lit< tt)) ∙ r.head.settings

  pub head-posts : RightHead book → (1 ≤ get_or book 1 0) × (get_or book 1 0 ≤ 8)
  unfolding posts_of
  head-posts r = (rw (first_byte book 1 (lit< tt)) at r.posts.least, rw (first_byte book 1 (lit< tt)) at r.posts.most)

  pub head-rest : RightHead book → Zeros 2 508 book
  unfolding Zeros
  head-rest r j l h = sym (first_byte book j (omega arith)) ∙ r.head.rest j l h
