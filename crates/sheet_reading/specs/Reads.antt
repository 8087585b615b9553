-- What is read of a sheet.
use Rattle.std.specs.Prelude.{◌≡◌, Result, Ok, Err}
use Rattle.sheet_words.specs.declared.Fault.{Fault}
use Rattle.sheet_reading.specs.Desk.{OnDesk}
use Rattle.sheet_reading.specs.declared.Desk.{Desk}
use Rattle.sheet_reading.specs.Reading.{Meaning, refused, stated}

-- what is read of a sheet: its first refusal; or all that it states, on the desk
abbrev pub ReadsSheet : Meaning → Result Desk Fault → Type 0
ReadsSheet (refused r line) (Err f) = (f.why ≡ r) × (f.line ≡ line)
ReadsSheet (refused r line) (Ok d) = ⊥
ReadsSheet (stated sheet) (Err f) = ⊥
ReadsSheet (stated sheet) (Ok d) = OnDesk sheet d
