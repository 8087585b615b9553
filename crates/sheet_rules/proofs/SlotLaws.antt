-- The places of rights among all, counted in tables: each is of one right alone, and a table that is put at one changes no other.
use mathlib.Core.Path.{◌≡◌, refl, sym, ap, ◌∙◌}
use mathlib.Core.Logic.{◌⊎◌, inl, inr}
use mathlib.Core.List.{List, [], ◌∷◌}
use Prim.Native.Nat.{ℕ, suc, ◌+◌, ◌*◌, ◌≤◌, ◌<◌}
use native.Mathlib.Omega.{arith}
use native.Mathlib.Nat.{zero-add}
use lib.Dec.{T}
use lib.ListN.{length, get_or, set}
use lib.Seq.{sets, length-sets, get_or-set_other, take_all}
use Rattle.ground.proofs.Bools.{lt_or_ge}
use Rattle.ground.proofs.Lists.{get_d_sets, part_same}
use Rattle.book_block.specs.Rule.{table_place}
use Rattle.book_block.specs.declared.rule.Right.{Right}
use Rattle.book_block.specs.declared.rule.Right.TheVariants.{Look, Set}
use Rattle.sheet_rules.specs.Rules.{same_right}
use Rattle.sheet_rules.specs.Desk.{slot_of, table_in}

pub slot_small : (right : Right) (i q : ℕ) → i < 7 → q < 8 → slot_of right i q < 112
unfolding slot_of table_place
slot_small Look i q h k = omega arith
slot_small Set i q h k = omega arith

-- a slot is of one right alone
unfoldable pub kind : Right → ℕ
kind Look = 0
kind Set = 1

pub slot_is : (right : Right) (i q : ℕ) → (slot_of right i q ≡ 16 * i + 2 * q + kind right) × (kind right < 2)
unfolding slot_of table_place kind
slot_is Look i q = (omega arith, omega arith)
slot_is Set i q = (omega arith, omega arith)

kind_one : (a b : Right) → kind a ≡ kind b → T (same_right a b)
unfolding same_right kind
kind_one Look Look e = tt
kind_one Look Set e = absurd (omega arith)
kind_one Set Look e = absurd (omega arith)
kind_one Set Set e = tt

pub slot_one : (a b : Right) (i j p q : ℕ) → p < 8 → q < 8 → slot_of a i p ≡ slot_of b j q → T (same_right a b) × (i ≡ j) × (p ≡ q)
slot_one a b i j p q h k e =
    let x = slot_is a i p in
    let y = slot_is b j q in
    let z : 16 * i + 2 * p + kind a ≡ 16 * j + 2 * q + kind b = sym x.0 ∙ e ∙ y.0 in
    let u = x.1 in
    let v = y.1 in
    (kind_one a b (omega (arith, z, u, v)), omega (arith, z, u, v), omega (arith, z, u, v))

-- ---- a table put at a place

get_d_sets-other : (l : List ℕ) (i : ℕ) (vs : List ℕ) (j : ℕ) → (j < i) ⊎ (i + length vs ≤ j) → get_or (sets l i vs) j 0 ≡ get_or l j 0
get_d_sets-other l i [] j h = refl
get_d_sets-other l i (v ∷ vs) j (inl h) = get_d_sets-other (set l i v) (suc i) vs j (inl (omega arith)) ∙ get_or-set_other l i j v 0 (λ e. omega arith)
get_d_sets-other l i (v ∷ vs) j (inr h) = get_d_sets-other (set l i v) (suc i) vs j (inr (omega arith)) ∙ get_or-set_other l i j v 0 (λ e. omega arith)

module _ (rights t : List ℕ) (slot : ℕ) (sixteen : length t ≡ 16) where
  pub own_slot : 16 * slot + 16 ≤ length rights → table_in (sets rights (16 * slot) t) slot ≡ t
  unfolding table_in
  own_slot room =
      part_same (sets rights (16 * slot) t) t (16 * slot) 0 16 (omega (arith, length-sets rights (16 * slot) t)) (omega arith)
      (λ o k. get_d_sets rights (16 * slot) t o (omega arith) (omega arith) ∙ ap (λ (j : ℕ). get_or t j 0) (sym (zero-add o)))
      ∙ take_all 16 t (omega arith)

  pub other_slot : (k : ℕ) → 16 * k + 16 ≤ length rights → (k ≡ slot → ⊥) → table_in (sets rights (16 * slot) t) k ≡ table_in rights k
  unfolding table_in
  other_slot k room apart =
      part_same (sets rights (16 * slot) t) rights (16 * k) (16 * k) 16 (omega (arith, length-sets rights (16 * slot) t)) room
      (λ o l. get_d_sets-other rights (16 * slot) t (16 * k + o) (elim (lt_or_ge k slot) [
        | inl m ↦ inl (omega arith)
        | inr m ↦ inr (elim (lt_or_ge slot k) [ inl z ↦ omega arith | inr z ↦ absurd (apart (omega arith)) ])
      ]))
