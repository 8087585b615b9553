-- `book::write` meets its contract: what `judge` found, then the head and the blocks of the settings, one run from the first byte on.
use native.Mathlib.Omega.{arith}
use mathlib.Core.Path.{refl}
use Rattle.ground.proofs.Answers.{passed_up}
use Rattle.book.specs.Promise.{WritesBook}
use Rattle.book.proofs.RoomLaws.{write_room}
use Rattle.book.proofs.writing.write.Goals as goal

pub returns-in_err-judge : goal.returns-in_err-judge
returns-in_err-judge c =
    let a = c.args in
    passed_up (λ r. WritesBook a.n a.m a.rights.now a.room.now r a.room.now) _ c.from_residual.ensures.1 (c.in_err-judge.ensures, refl)

pub overflow_cast-n : goal.overflow_cast-n
overflow_cast-n c = let w = c.in_ok-judge.ensures in omega (arith, w.0.settings.most)

pub overflow_cast-m : goal.overflow_cast-m
overflow_cast-m c = let w = c.in_ok-judge.ensures in omega (arith, w.0.posts.most)

pub write_head-requires : goal.write_head-requires
write_head-requires c = let w = c.in_ok-judge.ensures in omega (arith, w.1)

pub write_settings-requires : goal.write_settings-requires
write_settings-requires c = let w = c.in_ok-judge.ensures in omega (arith, w.0.settings.most, w.0.size, w.1, c.write_head.auto.room)

pub returns : goal.returns
returns c =
    let a = c.args in
    let w = c.in_ok-judge.ensures in
    (w.0, w.1, write_room a.n a.m a.rights.now a.room.now _ _ w.0 w.1 c.write_head.ensures c.write_settings.ensures)
