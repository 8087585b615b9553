-- Tests taken apart and put together: each by the two cases of a Bool.
use mathlib.Core.Path.{◌≡◌, refl, sym, subst}
use mathlib.Core.Logic.{◌⊎◌, inl, inr}
use mathlib.Core.Bool.{Bool, true, false, not, ◌&&◌, ◌||◌, beq}
use Prim.Native.Nat.{ℕ, zero, suc, ◌<◌, ◌≤◌}
use native.Mathlib.Omega.{arith}
use lib.Dec.{T, eqb, eqb_refl}

pub true→T : {a : Bool} → a ≡ true → T a
true→T {a} e = subst T (sym e) tt

pub T→true : (a : Bool) → T a → a ≡ true
T→true true h = refl
T→true false h = elim h [ ]

pub T→false : (a : Bool) → T (not a) → a ≡ false
T→false false h = refl
T→false true h = elim h [ ]

pub false→T : {a : Bool} → a ≡ false → T (not a)
false→T {a} e = subst (λ (x : Bool). T (not x)) (sym e) tt

pub and_in : (a b : Bool) → T a → T b → T (a && b)
and_in true b h k = k
and_in false b h k = elim h [ ]

pub and_true : (a : Bool) → a && true ≡ a
and_true true = refl
and_true false = refl

pub and_false : (a : Bool) → a && false ≡ false
and_false true = refl
and_false false = refl

pub and_left : (a b : Bool) → T (a && b) → T a
and_left true b h = tt
and_left false b h = elim h [ ]

pub and_right : (a b : Bool) → T (a && b) → T b
and_right true b h = h
and_right false b h = elim h [ ]

pub or_true : (a : Bool) → a || true ≡ true
or_true true = refl
or_true false = refl

pub or_false : (a : Bool) → a || false ≡ a
or_false true = refl
or_false false = refl

pub or_left : (a b : Bool) → T a → T (a || b)
or_left true b h = tt
or_left false b h = elim h [ ]

pub or_right : (a b : Bool) → T b → T (a || b)
or_right true b h = tt
or_right false b h = h

pub or_out : (a b : Bool) → T (a || b) → T a ⊎ T b
or_out true b h = inl tt
or_out false b h = inr h

pub decide : (a : Bool) → T a ⊎ T (not a)
decide true = inl tt
decide false = inr tt

-- a test that holds and fails proves anything
pub both {ℓ} : {A : Type ℓ} (a : Bool) → T a → T (not a) → A
both true h k = absurd k
both false h k = absurd h

pub T_iff : (a b : Bool) → (T a → T b) → (T b → T a) → a ≡ b
T_iff true true f g = refl
T_iff true false f g = absurd (f tt)
T_iff false true f g = absurd (g tt)
T_iff false false f g = refl

pub beq→eq : (a b : Bool) → T (beq a b) → a ≡ b
beq→eq true true h = refl
beq→eq false false h = refl
beq→eq false true h = elim h [ ]
beq→eq true false h = elim h [ ]

pub eq→eqb : {a b : ℕ} → a ≡ b → T (eqb a b)
eq→eqb {a} e = subst (λ (x : ℕ). T (eqb a x)) e (eqb_refl a)

pub lt_or_ge : (a b : ℕ) → (a < b) ⊎ (b ≤ a)
lt_or_ge a zero = inr (omega arith)
lt_or_ge zero (suc b) = inl (omega arith)
lt_or_ge (suc a) (suc b) = elim (lt_or_ge a b) [ inl h ↦ inl (omega arith) | inr h ↦ inr (omega arith) ]
