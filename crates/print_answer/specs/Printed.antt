-- "It prints `refused NUMBER PLACE` .., or `cannot`, or `reach H` and a line per plan byte"; and a refusal with its second number. What a plan's lines are stands in
-- print_answer/specs/Listed.
use Rattle.std.specs.Prelude.{◌≡◌, List, ◌++◌, ℕ, length, take, drop, Option, Some, None}
use Rattle.ground.specs.Text.{bytes}
use Rattle.plan.specs.Plans.{Plan}
use Rattle.print_room.specs.Decimal.{decimal}
use Rattle.print_answer.specs.Listed.{line, plan_text}

-- "`refused NUMBER PLACE`", before the line ends
abbrev pub refused_at : ℕ → ℕ → List ℕ
refused_at number place = bytes "refused " ++ decimal number ++ bytes " " ++ decimal place

abbrev pub refused_text : ℕ → ℕ → List ℕ
refused_text number place = line (refused_at number place)

-- "Refusal 18 carries a second number": where there is one, it stands last
abbrev pub seconded_text : ℕ → ℕ → Option ℕ → List ℕ
seconded_text number place None = refused_text number place
seconded_text number place (Some second) = line (refused_at number place ++ bytes " " ++ decimal second)

-- "`cannot`"
abbrev pub cannot_text : List ℕ
cannot_text = line (bytes "cannot")

-- "`reach H`", alone
abbrev pub height_text : ℕ → List ℕ
height_text height = line (bytes "reach " ++ decimal height)

-- "`reach H` and a line per plan byte"
abbrev pub reach_text : ℕ → Plan → List ℕ
reach_text height p = height_text height ++ plan_text 0 p

-- what a lent room that held old holds when as much of the text is written into it as fits: the rest is kept
abbrev pub fitted : List ℕ → List ℕ → List ℕ
fitted old text = take (length old) text ++ drop (length text) old

-- the length given is the whole text's, whatever of it the room holds
pub record Prints (old text : List ℕ) (r : ℕ) (new : List ℕ) : Type 0 where
  pub count : r ≡ length text
  pub room : new ≡ fitted old text
