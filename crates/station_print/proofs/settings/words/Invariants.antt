-- `words` meets its contract. The loop's invariant: the first i settings were written.
use Rattle.print_room.specs.Wrote.{Wrote}
use Rattle.station_print.specs.Settings.{setting_words}
use Rattle.station_print.proofs.settings.words.Given as goal

abbrev pub invariant-loop-i : goal.invariant-loop-i
invariant-loop-i l = Wrote l.initial.out l.to (setting_words l.i l.present) l.out l.at
