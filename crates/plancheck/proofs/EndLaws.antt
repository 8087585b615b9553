-- Where a plan ends too soon, and where it goes on after it is whole: no byte has one of these two faults by itself, so it is the end or the
-- first byte that nothing waits for.
use mathlib.Core.Path.{◌≡◌, refl, sym, ap, ◌∙◌}
use mathlib.Core.List.{List, [], ◌∷◌, append-nil}
use Prim.Native.Nat.{ℕ, ◌≤◌}
use Rattle.plan.specs.Plans.{System, Lawful, Plan, Works}
use Rattle.plan.specs.Bytes.{encode}
use Rattle.plan.specs.Check.{too_soon, left_over, check}
use Rattle.plan.proofs.Check.{check_exact}
use Rattle.plan.proofs.Faults.{Reads, Wrong, judge-reads}
use Rattle.plancheck.proofs.ByteLaws.{fault_means}

pub ends : (S : System) (pending left : List ℕ) → Wrong S pending left too_soon → (left ≡ []) × ((k : ℕ) × ((ks : List ℕ) × (pending ≡ k ∷ ks)))
ends S [] [] w = absurd w
ends S [] (c ∷ cs) w = absurd cc
ends S (k ∷ ks) [] w = (refl, (k, (ks, refl)))
ends S (k ∷ ks) (c ∷ cs) w = absurd ((fault_means S k c too_soon).0 w)

pub over : (S : System) (pending left : List ℕ) → Wrong S pending left left_over → (pending ≡ []) × ((c : ℕ) × ((cs : List ℕ) × (left ≡ c ∷ cs)))
over S [] [] w = absurd w
over S [] (c ∷ cs) w = (refl, (c, (cs, refl)))
over S (k ∷ ks) [] w = absurd cc
over S (k ∷ ks) (c ∷ cs) w = absurd ((fault_means S k c left_over).0 w)

-- bytes that read without a fault and leave nothing pending are those of a plan that works
pub whole-plan : {n : ℕ} {S : System} → Lawful n S → n ≤ 7 → (k : ℕ) (before : List ℕ) → Reads S (k ∷ []) before []
    → (p : Plan) × Works S k p × (before ≡ encode p)
whole-plan {n} {S} law few k before reads =
    (check_exact law few k before).0
    (ap (check S k) (sym (append-nil before)) ∙ judge-reads 0 [] reads)
