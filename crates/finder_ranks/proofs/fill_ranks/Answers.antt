-- `finder_ranks::fill_ranks` meets its contract: where there is a table to fill, it is marked and spread.
use Rattle.ground.proofs.Answers.{told}
use Rattle.finder_ranks.specs.Fills.{RanksFit}
use Rattle.finder_ranks.proofs.FillLaws.{table, filled}
use Rattle.finder_ranks.proofs.fill_ranks.Goals as goal

pub returns : goal.returns
returns c =
    let room : (RanksFit c.args.n c.args.ranks.now) =
    told ((RanksFit c.args.n c.args.ranks.now)) c.has_room.result c.has_room.ensures c.if-not-has_room.false in
    filled (room) (table c.mark.ensures c.spread.ensures)
