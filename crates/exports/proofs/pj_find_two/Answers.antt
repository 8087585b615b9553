-- `pj_find_two` meets its contract: the answer and the three rooms are the finder's.
use Rattle.exports.proofs.pj_find_two.Goals as goal

pub returns : goal.returns
returns c = record { answer = c.find_two.result; finds = c.find_two.ensures; result_is = c.found_as.ensures }
