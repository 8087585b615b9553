-- `finder_sides::filled::entry_of` meets its contract, by what the side tells.
use Prim.Native.Nat.{ℕ, ◌+◌, ◌*◌, ◌<◌}
use native.Mathlib.Omega.{arith}
use lib.Dec.{lit<}
use Rattle.finder_sides.proofs.FillLaws.{place_lt, entry-unknown, entry_known}
use Rattle.finder_sides.proofs.filled.entry_of.Goals as goal
use Rattle.finder_sides.proofs.filled.entry_of.Goals.{In-Unknown}

-- the sides where the unknown setting is false (1) and true (2) are sides of the table
place : (c : In-Unknown) → (d : ℕ) → d < 3 → c.args.side + d * c.in-Unknown.power < 2187
place c = place_lt c.args.n c.args.side c.told_by.result c.requires.0 c.requires.1 c.told_by.ensures c.in-Unknown.power c.in-Unknown.is

pub overflow_add-result : goal.overflow_add-result
overflow_add-result c = omega (arith, place (goal.at.overflow_add-result c).In-Unknown 1 (lit< tt))

pub bounds-table-side : goal.bounds-table-side
bounds-table-side c = omega (arith, place (goal.at.bounds-table-side c).In-Unknown 1 (lit< tt))

pub overflow_mul-result : goal.overflow_mul-result
overflow_mul-result c = omega (arith, place (goal.at.overflow_mul-result c).In-Unknown 2 (lit< tt))

pub overflow_add-result-in-Unknown : goal.overflow_add-result-in-Unknown
overflow_add-result-in-Unknown c = omega (arith, place (goal.at.overflow_add-result-in-Unknown c).In-Unknown 2 (lit< tt))

pub bounds-table-side-in-Unknown : goal.bounds-table-side-in-Unknown
bounds-table-side-in-Unknown c = omega (arith, place (goal.at.bounds-table-side-in-Unknown c).In-Unknown 2 (lit< tt))

pub returns-in-Unknown : goal.returns-in-Unknown
returns-in-Unknown c =
    entry-unknown c.args.n c.args.side c.told_by.result c.requires.0 c.requires.1 c.told_by.ensures c.in-Unknown.power c.in-Unknown.is
    c.args.table.now c.requires.2

pub returns-in-Valuation : goal.returns-in-Valuation
returns-in-Valuation c =
    entry_known c.args.n c.args.side c.told_by.result c.requires.0 c.requires.1 c.told_by.ensures
    c.in-Valuation.value c.in-Valuation.is c.args.columns.now
