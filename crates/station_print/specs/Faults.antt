-- The line of an act at fault, "in words and as it stands": which act, its record, and why it was not allowed.
--     act 3, set d 1 1: not permitted where a is off, b on, c off, d off
--     act 3, line 5, look a 2 1: shows 0 where a is off, b on, c off, d off
--     act 3, bytes 200 7: no record of this book
use Rattle.std.specs.Prelude.{Bool, true, false, cond, List, [], ◌∷◌, ◌++◌, ℕ, eqb}
use Rattle.std.specs.Option.{unwrap_or}
use Rattle.ground.specs.Text.{bytes}
use Rattle.print_room.specs.Decimal.{decimal}
use Rattle.print_answer.specs.Listed.{line, value_digit}
use Rattle.sheet_words.specs.Words.{split, newline}
use Rattle.station.specs.Shift.{RecordFault, no_record, not_allowed, disagrees}
use Rattle.station_text.specs.Records.{is_record, record_text}
use Rattle.station_text.specs.Meaning.{is_text, line_of}
use Rattle.station_print.specs.Settings.{setting_words}

-- "with text its line is said too"
abbrev pub line_said : Bool → ℕ → List ℕ
line_said true number = bytes ", line " ++ decimal number
line_said false number = []

-- "`act 3` is the record with index 3"
unfoldable pub place_text : List ℕ → ℕ → List ℕ
place_text shift index = bytes "act " ++ (decimal index ++ line_said (is_text shift) (unwrap_or (line_of 1 index (split newline shift)) 0))

-- the words of a record; two bytes that are none which text can say stand as they are
unfoldable pub record_words : ℕ → ℕ → List ℕ
record_words byte seen = cond (is_record byte seen) (record_text byte seen) (bytes "bytes " ++ (decimal byte ++ 32 ∷ decimal seen))

-- the fault with this number: 27, 28, or 29, the one that is left
abbrev pub fault_numbered : ℕ → RecordFault
fault_numbered number = cond (eqb number 27) no_record (cond (eqb number 28) not_allowed disagrees)

-- why the act was not allowed on the settings v; of a look that disagrees, the value that it really shows, which is the one that was not seen
abbrev pub why_text : RecordFault → ℕ → ℕ → ℕ → List ℕ
why_text no_record n v seen = bytes "no record of this book"
why_text not_allowed n v seen = bytes "not permitted where " ++ setting_words n v
why_text disagrees n v seen = bytes "shows " ++ value_digit (eqb seen 0) ∷ (bytes " where " ++ setting_words n v)

-- the line of the record with this index and these two bytes, refused with this number on the settings v
unfoldable pub fault_text : List ℕ → ℕ → ℕ → ℕ → ℕ → ℕ → ℕ → List ℕ
fault_text shift index byte seen number n v =
    line (place_text shift index ++ (bytes ", " ++ (record_words byte seen ++ (bytes ": " ++ why_text (fault_numbered number) n v seen))))
