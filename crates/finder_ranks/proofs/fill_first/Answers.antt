-- `finder_ranks::fill_first` meets its contract: where there is a table to fill and one of the second leg, it is marked,
-- loses the marks where that has no rank, and is spread.
use Rattle.finder_ranks.specs.Fills.{goal_then}
use Rattle.finder_ranks.specs.Marks.{Marks}
use Rattle.finder_ranks.proofs.MarkLaws.{marks_then}
use Rattle.finder_ranks.proofs.FillLaws.{ready, table, filled-first}
use Rattle.finder_ranks.proofs.fill_first.Goals as goal
use Rattle.finder_ranks.proofs.fill_first.Goals.{After-unmark}

marked : (c : After-unmark) → let s = c.args in Marks s.n (goal_then s.n s.made.now s.learnt.now s.ranks2.now) s.ranks.now c.unmark.new.ranks
marked c = marks_then c.args.made.now c.args.learnt.now c.args.ranks2.now c.mark.ensures c.unmark.ensures

pub spread-requires : goal.spread-requires
spread-requires c = ready (marked (goal.at.spread-requires c).After-unmark) (c.if-not-has_room-2.ensures)

pub returns : goal.returns
returns c = filled-first (c.if-not-has_room.ensures) (c.if-not-has_room-2.ensures) (table (marked (goal.at.returns c).After-unmark) c.spread.ensures)
