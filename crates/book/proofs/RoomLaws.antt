-- What the reader and the writer leave in the room, and that rights which may be written meet none of the writer's refusals.
use mathlib.Core.Path.{◌≡◌, sym, subst}
use mathlib.Core.List.{List, ◌++◌}
use Prim.Native.Nat.{ℕ, ◌+◌, ◌-◌, ◌*◌, ◌≤◌}
use native.Mathlib.Omega.{arith}
use lib.ListN.{length, drop}
use lib.Seq.{sets}
use Rattle.book_sound.specs.Sound.{Sound, rights_of, tables_of}
use Rattle.book.specs.Rows.{write_rows}
use Rattle.book_block.specs.Kinds.{Tables}
use Rattle.book_block.specs.Sealed.{head_block}
use Rattle.book.specs.Written.{setting_blocks, book_of, Writable}
use Rattle.refusal.specs.Order.{Clear}
use Rattle.ground.proofs.Lists.{filled}
use Rattle.refusal.proofs.OrderLaws.{clear_none, clear-past, clear-when, clear-lowest}
use Rattle.book_block.proofs.SealLaws.{run_on}
use Rattle.book_block.proofs.BlockLaws.{length-head}
use Rattle.book_sound.proofs.BlockRows.{none-block, down}
use Rattle.book_sound.proofs.RightsLaws.{length_rights}
use Rattle.book.proofs.WriteLaws.{length_book}

pub read-room : {book : List ℕ} (room after : List ℕ) {n m : ℕ} → Sound book n m → 256 * n ≤ length room → after ≡ sets room 0 (rights_of book n)
    → after ≡ rights_of book n ++ drop (256 * n) room
read-room {book} room after {n} sound h p = filled room after (rights_of book n) (256 * n) (length_rights book n (omega (arith, sound.size))) h p

-- ---- writing

pub write_room : (n m : ℕ) (rights room headed after : List ℕ) → Writable n m rights → 512 * (1 + n) ≤ length room
    → headed ≡ sets room 0 (head_block n m) → after ≡ sets headed 512 (setting_blocks rights n) → after ≡ book_of n m rights ++ drop (512 * (1 + n)) room
unfolding book_of
write_room n m rights room headed after w h p q =
    filled room after (head_block n m ++ setting_blocks rights n) (512 * (1 + n)) (length_book n m rights w.size) h
    (run_on room headed after (head_block n m) (setting_blocks rights n) 0 512 (omega (arith, length-head n m)) p q)

pub writable_clear : {n m : ℕ} {rights : List ℕ} (room : List ℕ) → Writable n m rights → 512 * (1 + n) ≤ length room → Clear (write_rows n m rights room)
unfolding write_rows
writable_clear {n} {m} {rights} room w h =
    clear-past w.settings
    (clear-past w.posts
    (clear-past w.size
    (clear-lowest
    (none-block (λ k. Tables n m (tables_of rights (k - 1))) (λ i l. subst (λ x. Tables n m (tables_of rights x)) (sym (down i)) (w.tables i l)))
    (clear-when (λ short. omega arith) clear_none))))
