-- Refusals 17 to 21 and 32: those of the faults that the bytes of a plan can have (plan/specs/Check).
use Rattle.std.specs.Prelude.{ℕ}
use Rattle.refusal.specs.declared.Refusal.{Refusal}
use Rattle.refusal.specs.declared.Refusal.TheVariants.{NoAct, NotPermitted, ChangesNothing, NotSettled, TooSoon, LeftOver}
use Rattle.plan.specs.Check.{Fault, no_act, not_permitted, changes_nothing_case, not_settled, too_soon, left_over}

-- the refusal of a fault, at the index of its byte
abbrev pub refusal_of : Fault → ℕ → Refusal
refusal_of no_act i = NoAct i
refusal_of (not_permitted why) i = NotPermitted i why
refusal_of changes_nothing_case i = ChangesNothing i
refusal_of not_settled i = NotSettled i
refusal_of too_soon i = TooSoon i
refusal_of left_over i = LeftOver i
