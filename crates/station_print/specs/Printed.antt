-- What is printed of a shift: "how many acts were done, what the settings are then, and the first act that was not allowed".
--     done 3
--     now ~a b ~c ~d
--     act 3, set d 1 1: not permitted where a is off, b on, c off, d off
use Rattle.std.specs.Prelude.{List, [], ◌++◌, ℕ, Result, Ok, Err}
use Rattle.ground.specs.Text.{bytes}
use Rattle.refusal.specs.Refusals.{number}
use Rattle.print_room.specs.Decimal.{decimal}
use Rattle.print_answer.specs.Listed.{line}
use Rattle.station.specs.Shift.{act_byte, seen_byte}
use Rattle.station.specs.declared.record.Running.{Running}
use Rattle.station.specs.declared.shift.Replayed.{Replayed}
use Rattle.station.specs.declared.shift.Replayed.TheVariants.{Whole, Stopped}
use Rattle.station_print.specs.Settings.{setting_names}
use Rattle.station_print.specs.Faults.{fault_text}
use Rattle.refusal.specs.declared.Refusal.{Refusal}

abbrev pub done_line : ℕ → List ℕ
done_line count = line (bytes "done " ++ decimal count)

-- the settings as START writes them, so that they can be the START of the next shift (proofs/Theorems `next_start`)
abbrev pub now_line : ℕ → ℕ → List ℕ
now_line n v = line (bytes "now " ++ setting_names n v)

unfoldable pub reached_text : ℕ → Running → List ℕ
reached_text n running = done_line running.count ++ now_line n running.present.0

-- what was reached, and the record after it, the one at fault
unfoldable pub stopped_text : ℕ → List ℕ → List ℕ → ℕ → Running → List ℕ
stopped_text n shift bytes code running =
    let k = running.count in
    reached_text n running ++ fault_text shift k (act_byte bytes k) (seen_byte bytes k) code n running.present.0

-- by what comes of the bytes of a shift; nothing is printed where it is refused
abbrev pub replay_text : ℕ → List ℕ → List ℕ → Result Replayed Refusal → List ℕ
replay_text n shift bytes (Ok (Whole running)) = reached_text n running
replay_text n shift bytes (Ok (Stopped why running)) = stopped_text n shift bytes (number why) running
replay_text n shift bytes (Err why) = []
