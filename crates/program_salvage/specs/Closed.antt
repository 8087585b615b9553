-- "prints in words which settings were closed": bit i of the marks is set where setting i was.
use Rattle.std.specs.Prelude.{Bool, true, false, List, [], ◌∷◌, ◌++◌, ℕ, zero, suc}
use Rattle.ground.specs.Digits.{bit}
use Rattle.ground.specs.Text.{byte, bytes}
use Rattle.print_answer.specs.Listed.{letter}

-- a space and the letter of setting i, where it was closed
abbrev pub closed_name : Bool → ℕ → List ℕ
closed_name true i = byte " " ∷ letter i ∷ []
closed_name false i = []

-- those of the first n settings, in order
unfoldable pub closed_names : ℕ → ℕ → List ℕ
closed_names zero marks = []
closed_names (suc i) marks = closed_names i marks ++ closed_name (bit marks i) i

-- the line: of no mark, and of any other marks
unfoldable pub closed_text : ℕ → List ℕ
closed_text zero = bytes "no setting was closed\n"
closed_text (suc marks) = bytes "closed" ++ (closed_names 7 (suc marks) ++ bytes ": nobody may look or set there\n")
