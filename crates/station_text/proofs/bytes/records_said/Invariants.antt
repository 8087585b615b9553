-- `records_said` meets its contract: the records so far are said, and the rest is still to be judged.
use Rattle.std.proofs.Common.{◌≡◌, ◌+◌, ◌*◌, drop}
use Rattle.station_text.specs.Meaning.{records_said}
use Rattle.station_text.proofs.bytes.records_said.Given as goal

abbrev pub invariant-loop-count : goal.invariant-loop-count
invariant-loop-count l = l.count + records_said (drop (2 * l.count) l.shift) ≡ records_said l.shift
