-- What a run does, act by act; and what stays so of the real settings on the way: where a digit is 0 the setting is as it was at the
-- start, and what the digits tell of the start is so. For an act changes one digit and at most one setting, and a lawful look is at a
-- digit 0, where it shows the start's value.
use mathlib.Core.Path.{◌≡◌, refl, sym, ap, ◌∙◌}
use mathlib.Core.Bool.{Bool, true, false}
use mathlib.Core.List.{[], ◌∷◌}
use Prim.Native.Nat.{ℕ, ◌<◌}
use native.Mathlib.Decide.{ℕ_discrete}
use lib.Dec.{T}
use Rattle.ground.specs.Digits.{digit, bit}
use Rattle.ground.proofs.Digits.{digit_lt}
use Rattle.knowledge_acts.specs.Seven.{start_told, after_look}
use Rattle.knowledge_acts.specs.Acts.{set_to, look_at}
use Rattle.knowledge_acts.specs.declared.act.Act.TheVariants.{Set, Look}
use Rattle.knowledge_acts.proofs.Seven.{set_known, look_known}
use Rattle.knowledge_acts.proofs.Outcomes.{set_here, set_other, look_here, look_other}
use Rattle.knowledge.specs.Fits.{agrees, fits_start, start_side}
use Rattle.knowledge.proofs.Fits.{fits-at, fits_intro}
use Rattle.plan.specs.Plans.{Plan, stop, set_then, look_then}
use Rattle.plan.specs.Runs.{change, did, saw, run}
use Rattle.plan.proofs.Effects.{change-here, change-other, start_stays}
use Rattle.plan.proofs.Unknowns.{seven}

-- the plan that a look goes on with: the first where false is seen, the second where true is
abbrev pub taken : Bool → Plan → Plan → Plan
taken false p r = p
taken true p r = r

-- a stop does nothing
pub run-stop : (v : ℕ) → run stop v ≡ []
run-stop v = refl

-- "a set changes its setting"
pub run-set : (i q v : ℕ) (b : Bool) (p : Plan) → run (set_then i q b p) v ≡ did (Set i q b) ∷ run p (change v i b)
run-set i q v b p = refl

-- "a look reads the present value and goes on with that outcome's plan"
pub run_look : (i q v : ℕ) (b : Bool) (p r : Plan) → bit v i ≡ b → run (look_then i q p r) v ≡ saw (Look i q) b ∷ run (taken b p r) v
run_look i q v false p r e = rw e
run_look i q v true p r e = rw e

-- a look after a set of its setting shows the value set
pub set_look : (i q s v : ℕ) (b : Bool) (p r : Plan)
    → run (set_then i q b (look_then i s p r)) v ≡ did (Set i q b) ∷ saw (Look i s) b ∷ run (taken b p r) (change v i b)
set_look i q s v b p r = ap (λ l. did (Set i q b) ∷ l) (run_look i s (change v i b) b p r (change-here v i b))

-- a look after a set of another setting shows what it showed before
pub set_look_other : (i j q s v : ℕ) (b c : Bool) (p r : Plan) → (j ≡ i → ⊥) → bit v j ≡ c
    → run (set_then i q b (look_then j s p r)) v ≡ did (Set i q b) ∷ saw (Look j s) c ∷ run (taken c p r) (change v i b)
set_look_other i j q s v b c p r ne e =
    ap (λ l. did (Set i q b) ∷ l) (run_look j s (change v i b) c p r (change-other v i j b ne ∙ e))

-- a start with the value that a look has shown agrees with it
shown : (b : Bool) → T (agrees (start_told (after_look b)) b)
unfolding agrees start_told after_look
shown false = tt
shown true = tt

module _ (n : ℕ) where
  -- the real settings a are those of the start v where nothing is known
  abbrev pub Real : ℕ → ℕ → ℕ → Type 0
  Real k v a = (i : ℕ) → i < n → digit 7 k i ≡ 0 → bit a i ≡ bit v i

  -- an unknown setting after a set is another one, which was unknown before, and the set has not touched it
  pub real_set : (k i v a : ℕ) (b : Bool) → Real k v a → Real (set_to k i b) v (change a i b)
  real_set k i v a b real j l z = elim (ℕ_discrete j i) [
    | yes e ↦ absurd (set_known (digit 7 k i) b (digit_lt seven k i) (sym (set_here k i b) ∙ rw e at z))
    | no ne ↦ change-other a i j b ne ∙ real j l (sym (set_other k i b j ne) ∙ z)
  ]

  pub real_look : (k i v a : ℕ) (b : Bool) → Real k v a → Real (look_at k i b) v a
  real_look k i v a b real j l z = elim (ℕ_discrete j i) [
    | yes e ↦ absurd (look_known b (sym (look_here k i b) ∙ rw e at z))
    | no ne ↦ real j l (sym (look_other k i b j ne) ∙ z)
  ]

  -- the start v fits what is known at k, and its settings can by now be a
  pub record Came (k v a : ℕ) : Type 0 where
    pub fitting : T (fits_start n (digit 7 k) v)
    pub real : Real k v a

  pub came_set : (k i v a : ℕ) (b : Bool) → Came k v a → Came (set_to k i b) v (change a i b)
  unfolding fits_start
  came_set k i v a b h = record {
    fitting = fits_intro n _ v (λ j l. rw (start_stays k i j b) (fits-at n (start_side (digit 7 k)) v h.fitting j l));
    real = real_set k i v a b h.real;
  }

  -- at a digit 0 a look shows the start's value
  pub came_look : (k i v a : ℕ) (b : Bool) → i < n → digit 7 k i ≡ 0 → bit a i ≡ b → Came k v a → Came (look_at k i b) v a
  unfolding fits_start
  came_look k i v a b l z e h = record {
    fitting = fits_intro n _ v (λ j m. elim (ℕ_discrete j i) [
      | yes s ↦ rw (s, look_here k i b, sym (h.real i l z) ∙ e) (shown b)
      | no ne ↦ rw (look_other k i b j ne) (fits-at n (start_side (digit 7 k)) v h.fitting j m)
    ]);
    real = real_look k i v a b h.real;
  }
