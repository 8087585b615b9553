-- "Status: 0 reach, yes or done; 1 cannot or no; 2 refused; 3 trouble with words, files or the disk."
use Rattle.std.specs.Prelude.{Bool, true, false, List, ℕ}
use Rattle.ground.specs.Text.{byte, bytes}
use Rattle.sheet_words.specs.Words.{begins}
use Rattle.program_outcome.specs.declared.Outcome.{Outcome}
use Rattle.program_outcome.specs.declared.Outcome.TheVariants.{Done, No, Refused, Trouble}

abbrev pub status_digit : Outcome → ℕ
status_digit Done = byte "0"
status_digit No = byte "1"
status_digit Refused = byte "2"
status_digit Trouble = byte "3"

-- the first of the three first words of an answer: `reach`, `cannot`, else `refused`
abbrev pub by_word : Bool → Bool → Outcome
by_word true cannot = Done
by_word false true = No
by_word false false = Refused

unfoldable pub answer_outcome : List ℕ → Outcome
answer_outcome text = by_word (begins (bytes "reach ") text) (begins (bytes "cannot") text)
