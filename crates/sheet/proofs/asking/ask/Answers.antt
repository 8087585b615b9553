-- `ask` meets its contract: what the finder answered is printed, and it refuses nothing.
use Rattle.std.proofs.Common.{ℕ}
use lib.ListN.{replicate, length-replicate}
use Rattle.sheet.proofs.DeskQuestion.{plan-fits, plan-readable, plan-told, cannot_told, never-refused}
use Rattle.sheet.proofs.asking.ask.Goals as goal

pub unwrap-requires : goal.unwrap-requires
unwrap-requires c = never-refused c.requires (replicate 2016 0) c.find.result c.find.new.plan c.find.ensures (length-replicate {A = ℕ} 2016 0)

pub slice_bounds-plan-end : goal.slice_bounds-plan-end
slice_bounds-plan-end c = plan-fits c.requires (replicate 2016 0) c.find.new.plan (rw (c.unwrap.ensures, c.in-Reach.is) at c.find.ensures)

pub reach-requires : goal.reach-requires
reach-requires c = plan-readable c.requires (replicate 2016 0) c.find.new.plan (rw (c.unwrap.ensures, c.in-Reach.is) at c.find.ensures)

pub returns-in-Reach : goal.returns-in-Reach
returns-in-Reach c =
    plan-told c.requires (replicate 2016 0) c.find.new.plan (rw (c.unwrap.ensures, c.in-Reach.is) at c.find.ensures) c.args.out.now c.reach.result c.reach.new.out c.reach.ensures

pub returns-in-Cannot : goal.returns-in-Cannot
returns-in-Cannot c =
    cannot_told c.requires (replicate 2016 0) c.find.new.plan c.args.out.now c.cannot.result c.cannot.new.out (rw (c.unwrap.ensures, c.in-Cannot.is) at c.find.ensures) c.cannot.ensures
