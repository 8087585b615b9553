-- What is printed for a sheet, by what the search found for its question.
use mathlib.Core.Path.{◌≡◌, ap}
use mathlib.Core.Logic.{inl, inr}
use mathlib.Core.List.{List}
use Prim.Native.Nat.{ℕ}
use lib.Dec.{T}
use lib.ListN.{length}
use Rattle.print_answer.specs.Printed.{reach_text, cannot_text, fitted}
use Rattle.sheet_reading.specs.Sheet.{Sheet}
use Rattle.sheet_reading.specs.Grammar.{WellFormed}
use Rattle.sheet_reading.specs.Reading.{Meaning, stated, sheet_meaning}
use Rattle.sheet.specs.Answer.{PrintsMeaning}
use Rattle.sheet.proofs.Theorems.{answer_unique}
use Rattle.marked.specs.Row.{Printed}
use Rattle.marked.proofs.Asked.{rights_in, question_in, goal_in}
use Rattle.marked.proofs.Search.{Certificate}
use Rattle.marked.proofs.Found.{shows, shown-asks, shown-written, shown-least, catches, caught_asks, caught_none}

-- the text is printed, whatever the room held
abbrev pub Says : Meaning → List ℕ → Type 0
Says o text = (old : List ℕ) → PrintsMeaning o old (length text) (fitted old text)

-- and nothing else is
pub printed : (s text : List ℕ) → Says (sheet_meaning s) text → Printed s text
printed s text says old = (says old, λ r new a. answer_unique s old r (length text) new (fitted old text) a (says old))

pub reach_says : (s : Sheet) → WellFormed s → (c : Certificate) → T (shows s c) → (text : List ℕ) → text ≡ reach_text c.height c.plan → Says (stated s) text
reach_says s w c t text e old = (
  rights_in s,
  question_in s,
  goal_in s,
  shown-asks s w c t,
  inl (c.height, c.plan, shown-least s w c t, shown-written s w c t, record { count = ap length e; room = ap (fitted old) e }),
)

pub cannot_says : (s : Sheet) → WellFormed s → (states : List ℕ) → T (catches s states) → (text : List ℕ) → text ≡ cannot_text → Says (stated s) text
cannot_says s w states t text e old = (
  rights_in s,
  question_in s,
  goal_in s,
  caught_asks s w states t,
  inr (caught_none s w states t, record { count = ap length e; room = ap (fitted old) e }),
)
