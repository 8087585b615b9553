-- "27, 28 and 29 are status 1; 6 to 9, 22, 24 and 26 are 2", and a START that does not name each setting of the book once is trouble.
use Rattle.std.specs.Prelude.{Result, Ok, Err}
use Rattle.program_outcome.specs.declared.Outcome.{Outcome}
use Rattle.program_outcome.specs.declared.Outcome.TheVariants.{Done, No, Refused, Trouble}
use Rattle.station_print.specs.declared.ReplayTold.{ReplayTold}
use Rattle.station_print.specs.declared.ReplayTold.TheVariants.{Done as AllDone, Stopped}
use Rattle.station_print.specs.declared.ReplayFault.{ReplayFault}
use Rattle.station_print.specs.declared.ReplayFault.TheVariants.{Book, Start, Shift}

abbrev pub replay_outcome : Result ReplayTold ReplayFault → Outcome
replay_outcome (Ok (AllDone count)) = Done
replay_outcome (Ok (Stopped why count)) = No
replay_outcome (Err (Book why)) = Refused
replay_outcome (Err Start) = Trouble
replay_outcome (Err (Shift why)) = Refused
