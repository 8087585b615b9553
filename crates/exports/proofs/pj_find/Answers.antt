-- `pj_find` meets its contract: the answer and the rooms are the finder's.
use Rattle.exports.proofs.pj_find.Goals as goal

pub returns : goal.returns
returns c = record { answer = c.find.result; finds = c.find.ensures; result_is = c.found_as.ensures }
