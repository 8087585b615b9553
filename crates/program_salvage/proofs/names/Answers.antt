-- `names` meets its contract. The loop's invariant: the names of the first i settings were written.
use mathlib.Core.Bool.{Bool}
use mathlib.Core.Path.{◌≡◌, ap}
use Prim.Native.Nat.{ℕ}
use native.Mathlib.Omega.{arith}
use Rattle.print_room.proofs.Writing.{wrote_as}
use Rattle.program_salvage.specs.Closed.{closed_name, closed_names}
use Rattle.program_salvage.proofs.ClosedLaws.{names-none, names-length, names_more}
use Rattle.program_salvage.proofs.names.Goals as goal

pub loop-i-init : goal.loop-i-init
loop-i-init c = names-none _

pub name-at-requires : goal.name-at-requires
name-at-requires c =
    let l = c.loop-i in
    (omega arith, omega (arith, c.requires, l.invariant.next_place, names-length l.i c.args.marks))

pub loop-i-preserved : goal.loop-i-preserved
loop-i-preserved c =
    let l = c.loop-i in
    names_more l.i c.args.marks l.invariant (wrote_as (ap (λ (b : Bool). closed_name b l.i) c.bit_of.ensures) c.name-at.ensures)

pub returns : goal.returns
returns c =
    let l = c.loop-i in
    let all-of-them : l.i ≡ 7 = omega arith in
    wrote_as (ap (λ (k : ℕ). closed_names k c.args.marks) all-of-them) l.invariant
