-- The refusal of a fault: its place is the index of the fault's byte, it is known by its fault, and it is not that of a plan that is too long.
use mathlib.Core.Path.{◌≡◌, refl, sym, ap, ◌∙◌}
use mathlib.Core.Bool.{cond}
use Prim.Native.Nat.{ℕ}
use native.Mathlib.Omega.{arith}
use lib.Dec.{eqb}
use Rattle.refusal.specs.declared.Refusal.{Refusal}
use Rattle.refusal.specs.declared.Refusal.TheVariants.{PlanLength, NoAct, NotPermitted, ChangesNothing, NotSettled, TooSoon}
use Rattle.refusal.specs.declared.Why.{Why}
use Rattle.refusal.specs.declared.Why.TheVariants.{KnownSetting, SurelyFalse, NotKnown, HeldSetting}
use Rattle.refusal.specs.Refusals.{number, place, second}
use Rattle.plan.specs.Check.{Fault, no_act, not_permitted, changes_nothing_case, not_settled, too_soon, left_over, Verdict, faulty}
use Rattle.plancheck.specs.Refusals.{refusal_of}

pub fault-place : (f : Fault) (i : ℕ) → place (refusal_of f i) ≡ i
fault-place no_act i = refl
fault-place (not_permitted why) i = refl
fault-place changes_nothing_case i = refl
fault-place not_settled i = refl
fault-place too_soon i = refl
fault-place left_over i = refl

-- ---- a fault by its refusal

reason : ℕ → Why
reason x = cond (eqb x 1) KnownSetting (cond (eqb x 2) SurelyFalse (cond (eqb x 3) NotKnown HeldSetting))

numbered : ℕ → ℕ → Fault
numbered x y =
    cond (eqb x (number (NoAct 0))) no_act
    (cond (eqb x (number (NotPermitted 0 NotKnown))) (not_permitted (reason y))
    (cond (eqb x (number (ChangesNothing 0))) changes_nothing_case
    (cond (eqb x (number (NotSettled 0))) not_settled (cond (eqb x (number (TooSoon 0))) too_soon left_over))))

found : Refusal → Verdict
found r = faulty (numbered (number r) (second r)) (place r)

found_back : (f : Fault) (i : ℕ) → found (refusal_of f i) ≡ faulty f i
unfolding found numbered reason
found_back no_act i = refl
found_back (not_permitted KnownSetting) i = refl
found_back (not_permitted SurelyFalse) i = refl
found_back (not_permitted NotKnown) i = refl
found_back (not_permitted HeldSetting) i = refl
found_back changes_nothing_case i = refl
found_back not_settled i = refl
found_back too_soon i = refl
found_back left_over i = refl

pub fault-one : (f g : Fault) (i j : ℕ) → refusal_of f i ≡ refusal_of g j → faulty f i ≡ faulty g j
fault-one f g i j e = sym (found_back f i) ∙ ap found e ∙ found_back g j

-- ---- no fault is 16

pub fault-short : (f : Fault) (i : ℕ) → refusal_of f i ≡ PlanLength → ⊥
fault-short no_act i e = omega (arith, ap number e)
fault-short (not_permitted why) i e = omega (arith, ap number e)
fault-short changes_nothing_case i e = omega (arith, ap number e)
fault-short not_settled i e = omega (arith, ap number e)
fault-short too_soon i e = omega (arith, ap number e)
fault-short left_over i e = omega (arith, ap number e)
