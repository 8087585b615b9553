-- `sound` meets its contract: each way out is the first refusal in the order, or none, by what was tested before it.
use Prim.Native.Nat.{ℕ, ◌≤◌, ◌<◌}
use lib.ListN.{length}
use native.Mathlib.Omega.{arith}
use Rattle.std.specs.Prelude.{Some, None}
use Rattle.ground.proofs.Answers.{told, untold}
use Rattle.book_block.specs.Check.{block, RightCheck}
use Rattle.book_sound.specs.Rows.{blocks, Whole, RightHead}
use Rattle.book_sound.proofs.BookLaws.{whole_length}
use Rattle.book_sound.proofs.RefusalLaws.{refuse_length, refuse_check, refuse_head, refuse_stray, is-sound}
use Rattle.book_sound.proofs.RefusalLaws.{stray_blocks, sound-head}
use Rattle.book_sound.proofs.sound.Goals as goal
use Rattle.book_sound.proofs.sound.Goals.{Else-not-is_whole, In_default, Else-not-is_head}

-- ---- what the tests on the way have told

whole : (c : Else-not-is_whole) → Whole c.args.book.now
whole c = told _ c.is_whole.result c.is_whole.ensures c.if-not-is_whole.false

checks : (c : In_default) → (k : ℕ) → k < blocks c.args.book.now → RightCheck (block c.args.book.now k)
unfolding blocks
checks c = c.in_default.ensures

head : (c : Else-not-is_head) → RightHead c.args.book.now
head c = told _ c.is_head.result c.is_head.ensures c.if-not-is_head.false

first_bytes : (c : Else-not-is_whole) → 2 ≤ length c.args.book.now
first_bytes c = omega (arith, whole_length (whole c))

-- ---- the ways out

pub returns-then-not-is_whole : goal.returns-then-not-is_whole
returns-then-not-is_whole c = refuse_length _ (untold (Whole _) c.is_whole.result c.is_whole.ensures c.if-not-is_whole.true)

pub first_wrong-requires : goal.first_wrong-requires
unfolding blocks
first_wrong-requires c = (whole_length (whole (goal.at.first_wrong-requires c).Else-not-is_whole)).2

pub returns-in-Some : goal.returns-in-Some
unfolding blocks
returns-in-Some c = refuse_check _ (whole (goal.at.returns-in-Some c).Else-not-is_whole) c.in-Some.ensures

pub returns-then-not-is_head : goal.returns-then-not-is_head
returns-then-not-is_head c =
    let at = goal.at.returns-then-not-is_head c in
    refuse_head _ (whole at.Else-not-is_whole) (checks at.In_default) (untold _ c.is_head.result c.is_head.ensures c.if-not-is_head.true)

pub bounds-book-0 : goal.bounds-book-0
bounds-book-0 c = omega (arith, first_bytes (goal.at.bounds-book-0 c).Else-not-is_whole)

pub bounds-book-1 : goal.bounds-book-1
bounds-book-1 c = omega (arith, first_bytes (goal.at.bounds-book-1 c).Else-not-is_whole)

pub returns-in-Some-first_stray : goal.returns-in-Some-first_stray
returns-in-Some-first_stray c =
    let at = goal.at.returns-in-Some-first_stray c in
    let h = head at.Else-not-is_head in
    refuse_stray _ (whole at.Else-not-is_whole) (checks at.In_default) h (stray_blocks h (Some _) c.in-Some-first_stray.ensures)

pub returns : goal.returns
returns c =
    let at = goal.at.returns c in
    let h = head at.Else-not-is_head in
    sound-head h (is-sound _ (whole at.Else-not-is_whole) (checks at.In_default) h (stray_blocks h None c.in_default-first_stray.ensures))
