-- `play` meets its contract: the records before this one were done.
use Rattle.std.proofs.Common.{ℕ, ◌*◌, get_or, arith, refl, sym, ap, ◌∙◌}
use Rattle.station.specs.Shift.{act_byte, seen_byte, stepped_by}
use Rattle.station.proofs.ShiftLaws.{reached-first, reached-more, plays-stopped}
use Rattle.station.proofs.shift.play.Goals as goal

pub loop-at-init : goal.loop-at-init
loop-at-init c = let a = c.args in (refl, reached-first a.n a.m a.book.now a.first.0 a.shift.now _ refl refl)

pub returns-in-Err : goal.returns-in-Err
unfolding act_byte seen_byte
returns-in-Err c =
    let a = c.args in
    let l = c.loop-at in
    plays-stopped a.n a.m a.book.now a.first.0 a.shift.now l.running l.invariant.1 c.in-Err.why (omega (arith, l.invariant.0))
    (rw l.invariant.0 (rw c.in-Err.is at c.judge.ensures))

pub loop-at-preserved : goal.loop-at-preserved
unfolding act_byte seen_byte
loop-at-preserved c =
    let a = c.args in
    let l = c.loop-at in (
      rw c.step.ensures (omega (arith, l.invariant.0)),
      reached-more a.n a.m a.book.now a.first.0 a.shift.now l.running l.invariant.1 _ (omega (arith, l.invariant.0))
          (rw l.invariant.0 (rw c.in_default.is at c.judge.ensures))
          (c.step.ensures ∙ ap (λ (k : ℕ). stepped_by l.running (get_or a.shift.now (2 * k) 0)) (sym l.invariant.0)),
    )
