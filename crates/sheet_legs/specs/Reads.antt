-- What is read of a question text that may have a second leg; and where it is cut.
use Rattle.std.specs.Prelude.{◌≡◌, List, ℕ, ◌+◌, ◌≤◌, length, take, drop, Result, Ok, Err, Option, Some, None}
use Rattle.sheet_words.specs.Words.{split, newline}
use Rattle.sheet_words.specs.declared.Fault.{Fault}
use Rattle.sheet_question.specs.Desk.{AskedOnDesk}
use Rattle.sheet_question.specs.declared.desk.AskedDesk.{AskedDesk}
use Rattle.sheet_legs.specs.Legs.{whole, parted, cut_lines, LegsMeaning, refused_at, one, two}
use Rattle.sheet_legs.specs.declared.Legs.{Legs}
use Rattle.sheet_legs.specs.declared.ThenLine.{ThenLine}

-- the first refusal; or what is asked, over n settings, each leg on its desk
abbrev pub ReadsLegs : ℕ → LegsMeaning → Result Legs Fault → Type 0
ReadsLegs n (refused_at r line) (Err f) = (f.why ≡ r) × (f.line ≡ line)
ReadsLegs n (refused_at r line) (Ok legs) = ⊥
ReadsLegs n (one a) (Err f) = ⊥
ReadsLegs n (one a) (Ok legs) = AskedOnDesk n a legs.first × (legs.second ≡ None)
ReadsLegs n (two a b) (Err f) = ⊥
ReadsLegs n (two a b) (Ok legs) = AskedOnDesk n a legs.first × ((d : AskedDesk) × (legs.second ≡ Some d) × AskedOnDesk n b d)

-- for the functions of this crate alone: the line `then` has five bytes with its byte 10, and the text before it so many lines and the number of that line
-- as its count of pieces
abbrev pub CutsAt : List ℕ → Option ThenLine → Type 0
CutsAt text None = cut_lines (split newline text) ≡ whole
CutsAt text (Some then) =
    (then.at + 5 ≤ length text)
    × (cut_lines (split newline text) ≡ parted (split newline (take then.at text)) (split newline (drop (then.at + 5) text)))
    × (length (split newline (take then.at text)) ≡ then.number)
    × (then.number ≤ 65537)
