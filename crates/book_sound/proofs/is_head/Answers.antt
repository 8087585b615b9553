-- `is_head` meets its contract: each test is one part of `RightHead`.
use Rattle.ground.proofs.Answers.{tells_iff, tells_no}
use borrow.Author.Rules.{rules}
use native.Mathlib.Omega.{arith}
use Rattle.book_sound.specs.Rows.{settings_of, blocks, RightHead}
use Rattle.book_sound.proofs.BookLaws.{right-head, head-settings, head-posts, head-rest}
use Rattle.book_sound.proofs.is_head.Goals as goal

pub returns-then-m-le-POSTS_MOST : goal.returns-then-m-le-POSTS_MOST
unfolding settings_of blocks
returns-then-m-le-POSTS_MOST c =
    tells_iff c.are_zeros.result (right-head (omega arith) (omega arith) (omega arith)) head-rest c.are_zeros.ensures

pub returns-else-m-le-POSTS_MOST : goal.returns-else-m-le-POSTS_MOST
unfolding settings_of blocks
returns-else-m-le-POSTS_MOST c =
    tells_no _ (search rules) (λ (right : RightHead c.args.book.now). omega (arith, head-settings right, head-posts right))
