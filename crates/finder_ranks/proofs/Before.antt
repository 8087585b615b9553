-- The states before k by an act on setting i are k with another digit there: which digits, one computed test tells.
use mathlib.Core.Path.{◌≡◌, sym, ap, ◌∙◌}
use mathlib.Core.Logic.{◌⊎◌, inl, inr}
use mathlib.Core.Bool.{Bool, true, false, ◌&&◌, ◌||◌}
use Prim.Native.Nat.{ℕ, ◌%◌, ◌<◌}
use lib.Dec.{T, eqb, ltb, eqb→eq, ltb→lt}
use borrow.Author.Tests.{eq-eqb, ne_eqb}
use Rattle.ground.specs.Digits.{digit, put}
use Rattle.ground.specs.Search.{all}
use Rattle.ground.proofs.Bools.{and_left, and_right, or_out}
use Rattle.ground.proofs.Search.{all-at}
use Rattle.ground.proofs.Digits.{digit_lt, put_same, put-put, put-digit}
use Rattle.knowledge_acts.specs.Seven.{after_set, after_look}
use Rattle.knowledge_acts.specs.Acts.{set_to, look_at}
use Rattle.knowledge_acts.proofs.Seven.{set_lt, look_lt}
use Rattle.knowledge_acts.proofs.Outcomes.{set_here, look_here}
use Rattle.knowledge.specs.Fits.{implies}
use Rattle.finder_ranks.specs.Push.{other, SetsTo}
use Rattle.finder_sides.proofs.Shown.{seven as pos}

module _ (k i : ℕ) where
  -- what a set leads to k from
  pub set_into : (p : ℕ) (b : Bool) → set_to p i b ≡ k → (put 7 k i (digit 7 p i) ≡ p) × (after_set (digit 7 p i) b ≡ digit 7 k i)
  unfolding set_to
  set_into p b e = (
    ap (λ (x : ℕ). put 7 x i (digit 7 p i)) (sym e)
        ∙ put-put pos p i (after_set (digit 7 p i) b) (digit 7 p i) (set_lt (digit 7 p i) b (digit_lt pos p i))
        ∙ put-digit pos p i,
    sym (set_here p i b) ∙ ap (λ (x : ℕ). digit 7 x i) e,
  )

  pub set_from : (e : ℕ) (b : Bool) → e < 7 → after_set e b ≡ digit 7 k i → set_to (put 7 k i e) i b ≡ k
  unfolding set_to
  set_from e b l a = rw (put_same pos k i e l, put-put pos k i e (after_set e b) l, a) (put-digit pos k i)

  -- what a look leads to k from, and where else
  pub look_into : (p : ℕ) (b : Bool) → digit 7 p i ≡ 0 → look_at p i b ≡ k → (put 7 k i 0 ≡ p) × (digit 7 k i ≡ after_look b)
  unfolding look_at
  look_into p b z e = (
    ap (λ (x : ℕ). put 7 x i 0) (sym e)
        ∙ put-put pos p i (after_look b) 0 (look_lt b)
        ∙ ap (λ (x : ℕ). put 7 p i x) (sym z)
        ∙ put-digit pos p i,
    sym (ap (λ (x : ℕ). digit 7 x i) e) ∙ look_here p i b,
  )

  pub look_to : (b : Bool) → look_at (put 7 k i 0) i b ≡ put 7 k i (after_look b)
  unfolding look_at
  look_to b = put-put pos k i 0 (after_look b) pos

  pub look_from : (b : Bool) → digit 7 k i ≡ after_look b → look_at (put 7 k i 0) i b ≡ k
  look_from b e = look_to b ∙ ap (λ (x : ℕ). put 7 k i x) (sym e) ∙ put-digit pos k i

-- a set gives d from these digits, and from no others
from_these : Bool → ℕ → ℕ → Bool
from_these b d e = implies (eqb (after_set e b) d) (eqb e d || (eqb e (other d) || (eqb e 0 && ltb d 3)))

pub only_from : (d e : ℕ) (b : Bool) → d < 7 → e < 7 → after_set e b ≡ d → (e ≡ d) ⊎ ((e ≡ other d) ⊎ ((e ≡ 0) × (d < 3)))
unfolding all after_set other from_these
only_from d e b l m a = elim (or_out (eqb e d) _ (rw (T_eqb a) at (tested b))) [
  | inl x ↦ inl (eqb→eq e d x)
  | inr x ↦ elim (or_out (eqb e (other d)) _ x) [
    | inl y ↦ inr (inl (eqb→eq e (other d) y))
    | inr y ↦ inr (inr (eqb→eq e 0 (and_left (eqb e 0) (ltb d 3) y), ltb→lt d 3 (and_right (eqb e 0) (ltb d 3) y)))
  ]
]
  where
    T_eqb : after_set e b ≡ d → eqb (after_set e b) d ≡ true
    T_eqb a = eq-eqb (after_set e b) d a

    tested : (b : Bool) → T (from_these b d e)
    tested false = all-at 7 (from_these false d) (all-at 7 (λ d. all 7 (from_these false d)) tt d l) e m
    tested true = all-at 7 (from_these true d) (all-at 7 (λ d. all 7 (from_these true d)) tt d l) e m

-- the value that a set to d sets
value : ℕ → Bool
value d = eqb (d % 2) 0

module _ (d : ℕ) (l : d < 7) where
  pub from_other : (d ≡ 0 → ⊥) → SetsTo (other d) d
  unfolding all after_set other value
  from_other z =
      (value d, eqb→eq (after_set (other d) (value d)) d (rw (ne_eqb d 0 z) at (all-at 7 (λ d. eqb d 0 || eqb (after_set (other d) (value d)) d) tt d l)))

  pub from_none : (d ≡ 0 → ⊥) → d < 3 → SetsTo 0 d
  unfolding all after_set value
  from_none z m =
      (value d, eqb→eq (after_set 0 (value d)) d (rw (ne_eqb d 0 z) at (all-at 3 (λ d. eqb d 0 || eqb (after_set 0 (value d)) d) tt d m)))
