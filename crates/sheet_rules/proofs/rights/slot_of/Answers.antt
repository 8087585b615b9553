-- `slot_of` meets its contract: the setting's tables, and the place of the table among them, counted in tables.
use mathlib.Core.Path.{ap}
use Prim.Native.Nat.{ℕ, ◌+◌, ◌*◌, ◌/◌}
use native.Mathlib.Omega.{arith}
use Rattle.book_block.proofs.RuleLaws.{place-small}
use Rattle.sheet_rules.specs.Desk.{slot_of}
use Rattle.sheet_rules.proofs.rights.slot_of.Goals as goal

pub overflow_add-result : goal.overflow_add-result
overflow_add-result c =
    let a = c.args in
    omega (arith, c.table_at.ensures, place-small a.post a.right (omega (arith, c.ranges.post.fits)))

pub returns : goal.returns
unfolding slot_of
returns c = ap (λ (k : ℕ). (256 * c.args.setting + k) / 16) c.table_at.ensures
