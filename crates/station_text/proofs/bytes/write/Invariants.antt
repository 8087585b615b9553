-- `write` meets its contract: the lines of the records so far were written, and those of the rest are still to come.
use Rattle.std.proofs.Common.{◌≡◌, List, ◌++◌, ℕ, ◌*◌, ◌≤◌, drop}
use Rattle.print_room.specs.Wrote.{Wrote}
use Rattle.station_text.specs.Meaning.{shift_text}
use Rattle.station_text.proofs.bytes.write.Given as goal

abbrev pub invariant-loop-count : goal.invariant-loop-count
invariant-loop-count l = (l.to ≤ 11 * l.count)
    × ((done : List ℕ) × Wrote l.initial.out 0 done l.out l.to × (done ++ shift_text (drop (2 * l.count) l.shift) ≡ shift_text l.shift))
