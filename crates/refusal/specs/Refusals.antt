-- The table of numbered refusals, a line a refusal. "A refusal gives a number and a place [..] Place is 0 unless named." "Refusal 18 carries a second
-- number." When each is given is said by those who give it, as rows (Order).
use Rattle.std.specs.Prelude.{ℕ, suc, Option, Some, None}
use Rattle.refusal.specs.declared.Refusal.{Refusal}
use Rattle.refusal.specs.declared.Refusal.TheVariants.{FormulaLength, StrayByte, LetterPast, NotSentence, Settings, BookLength, Check, Head}
use Rattle.refusal.specs.declared.Refusal.TheVariants.{StrayBit, Team, Known, Goal, RankRoom, PlanRoom, Room, PlanLength, NoAct, NotPermitted}
use Rattle.refusal.specs.declared.Refusal.TheVariants.{NotSettled, TooSoon, LeftOver, Malformed, Twice, SheetLength, SheetSettings}
use Rattle.refusal.specs.declared.Refusal.TheVariants.{Shift, NoRecord, NotAllowed, Disagrees, SalvageHead, Held, ChangesNothing}
use Rattle.refusal.specs.declared.Why.{Why}
use Rattle.refusal.specs.declared.Why.TheVariants.{KnownSetting, SurelyFalse, NotKnown, HeldSetting}
use Rattle.refusal.specs.declared.Numbers.{Numbers}

-- "0 for a look at a known setting, 1 surely false, 2 not known"; "A plan that sets a held setting gets 18, second number 3"
abbrev pub second_of : Why → ℕ
second_of KnownSetting = 0
second_of SurelyFalse = 1
second_of NotKnown = 2
second_of HeldSetting = 3

-- "a number and a place", and no second number
abbrev pub numbered : ℕ → ℕ → Numbers
numbered number place = record { number = number; place = place; second = None }

-- with a second number
abbrev pub seconded : ℕ → ℕ → ℕ → Numbers
seconded number place second = record { number = number; place = place; second = Some second }

-- the columns "no." and "place", and the second number of 18
abbrev pub numbers : Refusal → Numbers
numbers FormulaLength = numbered 1 0
numbers (StrayByte index) = numbered 2 index
numbers (LetterPast index) = numbered 3 index
numbers (NotSentence index) = numbered 4 index
numbers Settings = numbered 5 0
numbers BookLength = numbered 6 0
numbers (Check block) = numbered 7 block
numbers Head = numbered 8 0
numbers (StrayBit block) = numbered 9 block
numbers Team = numbered 10 0
numbers Known = numbered 11 0
numbers Goal = numbered 12 0
numbers (RankRoom table) = numbered 13 table
numbers PlanRoom = numbered 14 0
numbers Room = numbered 15 0
numbers PlanLength = numbered 16 0
numbers (NoAct index) = numbered 17 index
numbers (NotPermitted index why) = seconded 18 index (second_of why)
numbers (NotSettled index) = numbered 19 index
numbers (TooSoon length) = numbered 20 length
numbers (LeftOver first) = numbered 21 first
numbers (Malformed line) = numbered 22 line
numbers (Twice line) = numbered 23 line
numbers SheetLength = numbered 24 0
numbers SheetSettings = numbered 25 1
numbers Shift = numbered 26 0
numbers (NoRecord index) = numbered 27 index
numbers (NotAllowed index) = numbered 28 index
numbers (Disagrees index) = numbered 29 index
numbers SalvageHead = numbered 30 0
numbers Held = numbered 31 0
numbers (ChangesNothing index) = numbered 32 index

-- the number that a refusal gives
abbrev pub number : Refusal → ℕ
number r = (numbers r).number

-- the place that it gives
abbrev pub place : Refusal → ℕ
place r = (numbers r).place

-- a second number and one, or 0 where there is none
abbrev pub and_one : Option ℕ → ℕ
and_one None = 0
and_one (Some second) = suc second

-- its second number and one, or 0 where it has none
abbrev pub second : Refusal → ℕ
second r = and_one (numbers r).second
