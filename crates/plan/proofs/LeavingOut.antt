-- A plan with the sets left out that change nothing where they stand (R-9): it works where the plan did, and is no higher and no longer,
-- since such a set leads back to its own state; nothing else is left out. And the plans of a system without such sets are those that have
-- none.
use mathlib.Core.Path.{◌≡◌, refl, ap, ap₂, subst}
use mathlib.Core.Logic.{inl, inr, ◌↔◌}
use mathlib.Core.Bool.{Bool, true, false, not}
use Prim.Native.Nat.{ℕ, suc, ◌≤◌}
use native.Mathlib.Omega.{arith}
use lib.Dec.{T}
use lib.ListN.{length, length-append}
use Rattle.ground.specs.Digits.{digit}
use Rattle.ground.proofs.Bools.{T→true, T→false, decide}
use Rattle.knowledge_acts.specs.Acts.{set_to, look_at}
use Rattle.knowledge_acts.specs.declared.act.Act.TheVariants.{Set}
use Rattle.plan.specs.Plans.{System, Plan, stop, set_then, look_then, Permitted, Works, height}
use Rattle.plan.specs.Bytes.{encode}
use Rattle.plan.specs.Without.{changes_nothing, without, NoneIdle, set_unless, leaving_out}
use Rattle.plan.proofs.Compare.{works_more, permitted-more}
use Rattle.plan.proofs.Size.{works_permitted}
use Rattle.plan.proofs.Unchanged.{nothing_set, may_exactly, permits_fewer, look_may}

-- what holds of it from the outcome of a set holds from the state of the set, whether the set is left out or not
set-left : (P : ℕ → Plan → Type 0) (k i q : ℕ) (b : Bool) (p : Plan) → P (set_to k i b) p
    → (T (not (changes_nothing (digit 7 k) (Set i q b))) → P k (set_then i q b p)) → P k (set_unless (changes_nothing (digit 7 k) (Set i q b)) i q b p)
set-left P k i q b p rest whole = elim (decide (changes_nothing (digit 7 k) (Set i q b))) [
  | inl t ↦ rw (T→true (changes_nothing (digit 7 k) (Set i q b)) t) (subst (λ (x : ℕ). P x p) ((nothing_set k i q b).0 t) rest)
  | inr t ↦ rw (T→false (changes_nothing (digit 7 k) (Set i q b)) t) (whole t)
]

module _ (S : System) where
  -- it works where the plan did
  pub leaving_works : (p : Plan) (k : ℕ) → Works S k p → Works (without S) k (leaving_out k p)
  unfolding leaving_out
  leaving_works stop k w = w
  leaving_works (set_then i q b p) k w =
      let rest = leaving_works p (set_to k i b) w.1 in
      set-left (Works (without S)) k i q b (leaving_out (set_to k i b) p) rest (λ t. ((may_exactly S k (Set i q b)).1 (w.0, t), rest))
  leaving_works (look_then i q p r) k w =
      (look_may S k i q w.0, leaving_works p (look_at k i false) w.1, leaving_works r (look_at k i true) w.2)

  -- a plan without such sets stays as it is: nothing else is left out
  pub leaving_none : (p : Plan) (k : ℕ) → Permitted (without S) k p → leaving_out k p ≡ p
  unfolding leaving_out
  leaving_none stop k w = refl
  leaving_none (set_then i q b p) k w =
      rw (T→false (changes_nothing (digit 7 k) (Set i q b)) ((may_exactly S k (Set i q b)).0 w.0).1) (ap (set_then i q b) (leaving_none p (set_to k i b) w.1))
  leaving_none (look_then i q p r) k w =
      ap₂ (look_then i q) (leaving_none p (look_at k i false) w.1) (leaving_none r (look_at k i true) w.2)

  -- ---- the plans of the system without such sets

  permitted-none : (p : Plan) (k : ℕ) → Permitted (without S) k p → NoneIdle k p
  permitted-none stop k w = tt
  permitted-none (set_then i q b p) k w = (((may_exactly S k (Set i q b)).0 w.0).1, permitted-none p (set_to k i b) w.1)
  permitted-none (look_then i q p r) k w = (permitted-none p (look_at k i false) w.1, permitted-none r (look_at k i true) w.2)

  none-permitted : (p : Plan) (k : ℕ) → Permitted S k p → NoneIdle k p → Permitted (without S) k p
  none-permitted stop k w f = tt
  none-permitted (set_then i q b p) k w f = ((may_exactly S k (Set i q b)).1 (w.0, f.0), none-permitted p (set_to k i b) w.1 f.1)
  none-permitted (look_then i q p r) k w f =
      (look_may S k i q w.0, none-permitted p (look_at k i false) w.1 f.0, none-permitted r (look_at k i true) w.2 f.1)

  none_works : (p : Plan) (k : ℕ) → Works S k p → NoneIdle k p → Works (without S) k p
  none_works stop k w f = w
  none_works (set_then i q b p) k w f = ((may_exactly S k (Set i q b)).1 (w.0, f.0), none_works p (set_to k i b) w.1 f.1)
  none_works (look_then i q p r) k w f =
      (look_may S k i q w.0, none_works p (look_at k i false) w.1 f.0, none_works r (look_at k i true) w.2 f.1)

  pub idle_permitted : (p : Plan) (k : ℕ) → Permitted (without S) k p ↔ (Permitted S k p × NoneIdle k p)
  idle_permitted p k = (λ w. (permitted-more (permits_fewer S) p k w, permitted-none p k w), λ w. none-permitted p k w.0 w.1)

  pub idle_works : (p : Plan) (k : ℕ) → Works (without S) k p ↔ (Works S k p × NoneIdle k p)
  idle_works p k = (
    λ w. (works_more (permits_fewer S) p k w, permitted-none p k (works_permitted (without S) p k w)),
    λ w. none_works p k w.0 w.1,
  )

-- ---- no higher and no longer

unless-height : (c : Bool) (i q : ℕ) (b : Bool) (p : Plan) → height (set_unless c i q b p) ≤ suc (height p)
unless-height true i q b p = omega arith
unless-height false i q b p = omega arith

-- it is no higher
pub leaving_height : (p : Plan) (k : ℕ) → height (leaving_out k p) ≤ height p
unfolding leaving_out
leaving_height stop k = omega arith
leaving_height (set_then i q b p) k =
    omega (arith, unless-height (changes_nothing (digit 7 k) (Set i q b)) i q b (leaving_out (set_to k i b) p), leaving_height p (set_to k i b))
leaving_height (look_then i q p r) k = omega (arith, leaving_height p (look_at k i false), leaving_height r (look_at k i true))

unless-length : (c : Bool) (i q : ℕ) (b : Bool) (p : Plan) → length (encode (set_unless c i q b p)) ≤ suc (length (encode p))
unless-length true i q b p = omega arith
unless-length false i q b p = omega arith

pub leaving_length : (p : Plan) (k : ℕ) → length (encode (leaving_out k p)) ≤ length (encode p)
unfolding leaving_out
leaving_length stop k = omega arith
leaving_length (set_then i q b p) k =
    omega (arith, unless-length (changes_nothing (digit 7 k) (Set i q b)) i q b (leaving_out (set_to k i b) p), leaving_length p (set_to k i b))
leaving_length (look_then i q p r) k =
    simp length-append (omega (arith, leaving_length p (look_at k i false), leaving_length r (look_at k i true)))
