-- `marks_of` meets its contract: after i turns there is a mark for each of i settings whose block does not stand.
use mathlib.Core.Path.{◌≡◌, subst}
use native.Mathlib.Omega.{arith}
use Rattle.book_salvage.proofs.MarkLaws.{MarkedTo, marked-none, marked_more, marked_all}
use Rattle.book_salvage.proofs.marking.marks_of.Goals as goal

pub loop-i-init : goal.loop-i-init
loop-i-init c = marked-none

pub with_mark-marks-requires : goal.with_mark-marks-requires
with_mark-marks-requires c = (omega (arith, c.requires, c.loop-i-test), c.loop-i.invariant.small)

pub loop-i-preserved : goal.loop-i-preserved
loop-i-preserved c =
    let made = c.with_mark-marks.ensures in
    marked_more c.loop-i.i c.loop-i.marks _ c.stands.result c.loop-i.invariant c.stands.ensures made.0 made.1 made.2

pub returns : goal.returns
returns c =
    let a = c.args in
    let r = c.loop-i in
    let e : r.i ≡ a.n = omega arith in
    marked_all (subst (λ k. MarkedTo a.book.now a.n a.m k r.marks) e r.invariant)
