-- What a byte can come to at a state: a stop, an act that may be done, or one of four faults, each with its reason in paper 01's words. By the
-- tests that the reading makes.
use mathlib.Core.Path.{◌≡◌, refl, ap, subst}
use mathlib.Core.Logic.{inl, inr, ◌↔◌}
use mathlib.Core.Bool.{Bool, true, false, not}
use mathlib.Core.List.{[], ◌∷◌}
use Prim.Native.Nat.{ℕ, zero, suc, ◌<◌}
use native.Mathlib.Omega.{arith}
use lib.Dec.{T}
use Rattle.ground.proofs.Bools.{true→T, false→T, and_in, both, decide}
use Rattle.knowledge_acts.specs.Acts.{act_of, set_to, look_at}
use Rattle.knowledge_acts.specs.declared.act.Act.{Act}
use Rattle.knowledge_acts.specs.declared.act.Act.TheVariants.{Set, Look}
use Rattle.std.proofs.Common.{Option, Some, None}
use Rattle.plan.specs.declared.Permit.{Permit}
use Rattle.plan.specs.declared.Permit.TheVariants.{Given, Denied, ChangesNothing}
use Rattle.plan.specs.Plans.{System, given, may}
use Rattle.plan.specs.Check.{Fault, no_act, not_permitted, changes_nothing_case, not_settled, too_soon, left_over}
use Rattle.plan.specs.Check.{Reading, goes_on, fails, outcomes, read_act, read_named, read_stop, read_byte}
use Rattle.plan.proofs.Check.{read-unsettled, read_nothing, read-other, read_forbidden, read_idle}

-- what is wrong with the byte c at the state k; a byte is never "too soon" or "after a whole plan" by itself
abbrev pub FaultAt : System → ℕ → ℕ → Fault → Type 0
-- 17 "byte names no act of this book and team"
FaultAt S k c no_act = (0 < c) × ((a : Act) → act_of c ≡ Some a → T (S.offers a) → ⊥)
-- 18 "act not permitted here, or look at a known setting", and why
FaultAt S k c (not_permitted why) = (a : Act) × (act_of c ≡ Some a) × T (S.offers a) × (S.permits k a ≡ Denied why)
-- 32 a set to the value that the team knows is there
FaultAt S k c changes_nothing_case = (a : Act) × (act_of c ≡ Some a) × T (S.offers a) × (S.permits k a ≡ ChangesNothing)
-- 19 "stop where the goal isn't settled"
FaultAt S k c not_settled = (c ≡ 0) × T (not (S.goal k))
FaultAt S k c too_soon = ⊥
FaultAt S k c left_over = ⊥

pub data Step (S : System) (k c : ℕ) : Reading → Type 0 where
  stops : Step S k c (goes_on [])
  sets : (i q : ℕ) (b : Bool) → T (may S k (Set i q b)) → Step S k c (goes_on (set_to k i b ∷ []))
  looks : (i q : ℕ) → T (may S k (Look i q)) → Step S k c (goes_on (look_at k i false ∷ look_at k i true ∷ []))
  faults : (f : Fault) → FaultAt S k c f → Step S k c (fails f)

module _ (S : System) (k : ℕ) where
  step-stop : (g : Bool) → S.goal k ≡ g → Step S k 0 (read_stop g)
  step-stop true e = stops
  step-stop false e = faults not_settled (refl, false→T e)

  step-done : (c : ℕ) (a : Act) → T (may S k a) → Step S k c (goes_on (outcomes k a))
  step-done c (Set i q b) m = sets i q b m
  step-done c (Look i q) m = looks i q m

  step_act : (c : ℕ) (a : Act) (o : Bool) (p : Permit) → 0 < c → act_of c ≡ Some a → S.offers a ≡ o → S.permits k a ≡ p → Step S k c (read_act o p (outcomes k a))
  step_act c a false p h e f g =
      faults no_act (h, λ b d t. let same : b ≡ a = cc in both (S.offers a) (subst (λ (x : Act). T (S.offers x)) same t) (false→T f))
  step_act c a true (Denied why) h e f g = faults (not_permitted why) (a, e, true→T f, g)
  step_act c a true ChangesNothing h e f g = faults changes_nothing_case (a, e, true→T f, g)
  step_act c a true Given h e f g = step-done c a (and_in (S.offers a) (given (S.permits k a)) (true→T f) (true→T (ap given g)))

  step-named : (c : ℕ) (x : Option Act) → 0 < c → act_of c ≡ x → Step S k c (read_named S k x)
  step-named c None h e = faults no_act (h, λ a d t. absurd cc)
  step-named c (Some a) h e = step_act c a (S.offers a) (S.permits k a) h e refl refl

  pub step : (c : ℕ) → Step S k c (read_byte S k c)
  step zero = step-stop (S.goal k) refl
  step (suc c) = step-named (suc c) (act_of (suc c)) (omega arith) refl

  -- a byte's fault is the one that it has a reason for
  reason : (c : ℕ) (f : Fault) (r : Reading) → Step S k c r → r ≡ fails f → FaultAt S k c f
  reason c f r stops e = absurd cc
  reason c f r (sets i q b m) e = absurd cc
  reason c f r (looks i q m) e = absurd cc
  reason c f r (faults g w) e = let same : g ≡ f = cc in subst (FaultAt S k c) same w

  unnamed : (c : ℕ) (x : Option Act) → 0 < c → act_of c ≡ x → ((a : Act) → act_of c ≡ Some a → T (S.offers a) → ⊥) → read_byte S k c ≡ fails no_act
  unnamed c None h e none = read_nothing S k c h e
  unnamed c (Some a) h e none = elim (decide (S.offers a)) [ inl t ↦ absurd (none a e t) | inr t ↦ read-other S k c a h e t ]

  named_positive : (c : ℕ) (a : Act) → act_of c ≡ Some a → 0 < c
  unfolding act_of
  named_positive zero a e = absurd cc
  named_positive (suc c) a e = omega arith

  fails_by : (c : ℕ) (f : Fault) → FaultAt S k c f → read_byte S k c ≡ fails f
  fails_by c no_act w = unnamed c (act_of c) w.0 refl w.1
  fails_by c (not_permitted why) (a, e, o, p) = read_forbidden S k c a why (named_positive c a e) e o p
  fails_by c changes_nothing_case (a, e, o, p) = read_idle S k c a (named_positive c a e) e o p
  fails_by c not_settled w = rw w.0 (read-unsettled S k w.1)
  fails_by c too_soon w = absurd w
  fails_by c left_over w = absurd w

  pub fault_means : (c : ℕ) (f : Fault) → read_byte S k c ≡ fails f ↔ FaultAt S k c f
  fault_means c f = (λ e. reason c f (read_byte S k c) (step c) e, λ w. fails_by c f w)
