-- `with_mark` meets its contract: a mark is a bit above those there are.
use mathlib.Core.Path.{◌≡◌, refl, sym, ap, ◌∙◌, subst}
use mathlib.Core.Bool.{not}
use native.Mathlib.Omega.{arith}
use Prim.Native.Nat.{ℕ, suc, ◌+◌, ◌^◌, ◌<◌}
use Rattle.ground.specs.Digits.{bit}
use Rattle.book_salvage.proofs.MarkLaws.{mark_is, mark_most, unmarked, unmarked_small, marked-here, marked-below, marked-small}
use Rattle.book_salvage.proofs.marking.with_mark.Goals as goal

pub returns-then-stays : goal.returns-then-stays
returns-then-stays c =
    let a = c.args in
    (unmarked_small a.marks a.i c.requires.1, unmarked a.marks a.i c.requires.1 ∙ sym (ap not c.if-stays.true), λ k h. refl)

pub overflow_add-result : goal.overflow_add-result
overflow_add-result c =
    let a = c.args in
    omega (arith, mark_is a.i c.requires.0, mark_most a.i c.requires.0, c.requires.1)

pub returns : goal.returns
returns c =
    let a = c.args in
    let low = c.requires.1 in
    subst
    (λ x. (a.marks + x < 2 ^ suc a.i) × (bit (a.marks + x) a.i ≡ not a.stays) × ((k : ℕ) → k < a.i → bit (a.marks + x) k ≡ bit a.marks k))
    (sym (mark_is a.i c.requires.0))
    (marked-small a.marks a.i low, marked-here a.marks a.i low ∙ sym (ap not c.if-stays.false), marked-below a.marks a.i low)
