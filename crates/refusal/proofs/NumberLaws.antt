-- A refusal is known by its numbers, and they are small: for those who pack them. The number and the second number find the refusal again in the list of all.
use mathlib.Core.Path.{◌≡◌, refl, sym, ap, ◌∙◌}
use mathlib.Core.List.{List, [], ◌∷◌}
use Prim.Native.Nat.{ℕ, ◌<◌}
use lib.Dec.{T, eqb, ltb, ltb→lt}
use mathlib.Core.Bool.{cond, ◌&&◌}
use Rattle.refusal.specs.declared.Refusal.{Refusal}
use Rattle.refusal.specs.declared.Refusal.TheVariants.{FormulaLength, StrayByte, LetterPast, NotSentence, Settings, BookLength, Check, Head}
use Rattle.refusal.specs.declared.Refusal.TheVariants.{StrayBit, Team, Known, Goal, RankRoom, PlanRoom, Room, PlanLength, NoAct, NotPermitted}
use Rattle.refusal.specs.declared.Refusal.TheVariants.{NotSettled, TooSoon, LeftOver, Malformed, Twice, SheetLength, SheetSettings}
use Rattle.refusal.specs.declared.Refusal.TheVariants.{Shift, NoRecord, NotAllowed, Disagrees, SalvageHead, Held, ChangesNothing}
use Rattle.refusal.specs.declared.Why.TheVariants.{KnownSetting, SurelyFalse, NotKnown, HeldSetting}
use Rattle.refusal.specs.declared.Numbers.{Numbers}
use Rattle.refusal.specs.Refusals.{numbers, number, and_one, second}

-- every refusal with the place i
unfoldable pub every : ℕ → List Refusal
every i =
    FormulaLength
    ∷ StrayByte i
    ∷ LetterPast i
    ∷ NotSentence i
    ∷ Settings
    ∷ BookLength
    ∷ Check i
    ∷ Head
    ∷ StrayBit i
    ∷ Team
    ∷ Known
    ∷ Goal
    ∷ RankRoom i
    ∷ PlanRoom
    ∷ Room
    ∷ PlanLength
    ∷ NoAct i
    ∷ NotPermitted i KnownSetting
    ∷ NotPermitted i SurelyFalse
    ∷ NotPermitted i NotKnown
    ∷ NotPermitted i HeldSetting
    ∷ NotSettled i
    ∷ TooSoon i
    ∷ LeftOver i
    ∷ Malformed i
    ∷ Twice i
    ∷ SheetLength
    ∷ SheetSettings
    ∷ Shift
    ∷ NoRecord i
    ∷ NotAllowed i
    ∷ Disagrees i
    ∷ SalvageHead
    ∷ Held
    ∷ ChangesNothing i
    ∷ []

-- the first of some refusals with this number and second number
unfoldable pub numbered_so : ℕ → ℕ → List Refusal → Refusal
numbered_so x y [] = FormulaLength
numbered_so x y (r ∷ rs) = cond (eqb (number r) x && eqb (second r) y) r (numbered_so x y rs)

-- the refusal with these numbers
unfoldable pub named : Numbers → Refusal
named x = numbered_so x.number (and_one x.second) (every x.place)

-- of each refusal: its numbers name it, its number is not 0, and neither its number nor its second number is past a byte
each : (r : Refusal) → (named (numbers r) ≡ r) × T (ltb 0 (number r)) × T (ltb (number r) 256) × T (ltb (second r) 256)
unfolding named numbered_so every
each FormulaLength = (refl, tt, tt, tt)
each (StrayByte i) = (refl, tt, tt, tt)
each (LetterPast i) = (refl, tt, tt, tt)
each (NotSentence i) = (refl, tt, tt, tt)
each Settings = (refl, tt, tt, tt)
each BookLength = (refl, tt, tt, tt)
each (Check i) = (refl, tt, tt, tt)
each Head = (refl, tt, tt, tt)
each (StrayBit i) = (refl, tt, tt, tt)
each Team = (refl, tt, tt, tt)
each Known = (refl, tt, tt, tt)
each Goal = (refl, tt, tt, tt)
each (RankRoom i) = (refl, tt, tt, tt)
each PlanRoom = (refl, tt, tt, tt)
each Room = (refl, tt, tt, tt)
each PlanLength = (refl, tt, tt, tt)
each (NoAct i) = (refl, tt, tt, tt)
each (NotPermitted i KnownSetting) = (refl, tt, tt, tt)
each (NotPermitted i SurelyFalse) = (refl, tt, tt, tt)
each (NotPermitted i NotKnown) = (refl, tt, tt, tt)
each (NotPermitted i HeldSetting) = (refl, tt, tt, tt)
each (NotSettled i) = (refl, tt, tt, tt)
each (TooSoon i) = (refl, tt, tt, tt)
each (LeftOver i) = (refl, tt, tt, tt)
each (Malformed i) = (refl, tt, tt, tt)
each (Twice i) = (refl, tt, tt, tt)
each SheetLength = (refl, tt, tt, tt)
each SheetSettings = (refl, tt, tt, tt)
each Shift = (refl, tt, tt, tt)
each (NoRecord i) = (refl, tt, tt, tt)
each (NotAllowed i) = (refl, tt, tt, tt)
each (Disagrees i) = (refl, tt, tt, tt)
each SalvageHead = (refl, tt, tt, tt)
each Held = (refl, tt, tt, tt)
each (ChangesNothing i) = (refl, tt, tt, tt)

pub named_back : (r : Refusal) → named (numbers r) ≡ r
named_back r = (each r).0

-- two refusals with the same numbers are equal
pub refusal-one : (r s : Refusal) → numbers r ≡ numbers s → r ≡ s
refusal-one r s e = sym (named_back r) ∙ ap named e ∙ named_back s

pub number-some : (r : Refusal) → 0 < number r
number-some r = ltb→lt 0 (number r) (each r).1

pub number_small : (r : Refusal) → number r < 256
number_small r = ltb→lt (number r) 256 (each r).2

pub second-small : (r : Refusal) → second r < 256
second-small r = ltb→lt (second r) 256 (each r).3
