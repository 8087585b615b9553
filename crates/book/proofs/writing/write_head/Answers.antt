-- `book::writing::write_head` meets its contract: two stores, the zeros and the check are one run of 512 bytes.
use native.Mathlib.Omega.{arith}
use mathlib.Core.Path.{refl, ap, ◌∙◌}
use mathlib.Core.List.{[], ◌∷◌}
use Prim.Native.Nat.{ℕ, suc}
use lib.ListN.{length-set, replicate, length-replicate}
use Rattle.book_block.specs.Sealed.{head_block}
use Rattle.book_block.proofs.SealLaws.{run_on, seal_on}
use Rattle.book.proofs.writing.write_head.Goals as goal

pub bounds-room-1 : goal.bounds-room-1
bounds-room-1 c = simp length-set (omega arith)

pub shape_of-room : goal.shape_of-room
shape_of-room c = c.seal.auto.room ∙ c.zeros.auto.room ∙ simp length-set

pub returns : goal.returns
unfolding head_block
returns c =
    let a = c.args in
    seal_on a.room.now _ _ (a.n ∷ a.m ∷ replicate 506 0) 0 (ap (λ k. suc (suc k)) (length-replicate {A = ℕ} 506 0)) c.requires
    (run_on a.room.now _ _ (a.n ∷ a.m ∷ []) (replicate 506 0) 0 2 refl refl c.zeros.ensures)
    c.seal.ensures
