-- What a question's answer tells, and what a search for the lowest failure has found.
use mathlib.Core.Path.{◌≡◌, refl, sym, subst}
use Rattle.std.specs.Prelude.{Result, Ok, Err}
use Rattle.std.specs.Result.{IsErrAnd}
use mathlib.Core.Bool.{Bool, true, false}
use Prim.Native.Nat.{ℕ, zero, suc, ◌<◌}
use lib.Dec.{eqb, eqb-suc-zero}
use native.Mathlib.Omega.{arith}
use Rattle.ground.specs.Tells.{Tells}
use Rattle.ground.specs.Search.{LowestAt}

-- in the two arms of `if !question() { .. }`
pub untold : (A : Type 0) (r : Bool) → Tells r A → r ≡ false → A → ⊥
untold A r t e = subst (λ (b : Bool). Tells b A) e t

pub told : (A : Type 0) (r : Bool) → Tells r A → r ≡ true → A
told A r t e = subst (λ (b : Bool). Tells b A) e t

-- where the first of two tests has answered no for both
pub tells_no : {A : Type 0} (r : Bool) → r ≡ false → (A → ⊥) → Tells r A
tells_no {A} r e not = subst (λ (b : Bool). Tells b A) (sym e) not

-- an answer to one question is the answer to another that holds where the first does
pub tells_iff : {A B : Type 0} (r : Bool) → (A → B) → (B → A) → Tells r A → Tells r B
tells_iff true f g a = f a
tells_iff false f g n = λ b. n (g b)

-- the lowest of one test is that of another that holds where the first does
pub lowest-map : {P Q : ℕ → Type 0} {n r : ℕ} → ((k : ℕ) → k < n → P k → Q k) → ((k : ℕ) → k < n → Q k → P k) → LowestAt n P r → LowestAt n Q r
lowest-map f g l =
    record {
      within = l.within;
      before = λ k h. f k (omega (arith, l.within)) (l.before k h);
      here = λ q. l.here (g _ l.within q);
    }

-- the test whether a number is 0
pub tells_zero : {A : Type 0} (x : ℕ) → (x ≡ 0 → A) → ((x ≡ 0 → ⊥) → A → ⊥) → Tells (eqb x 0) A
tells_zero zero f g = f refl
tells_zero {A} (suc x) f g = subst (λ (b : Bool). Tells b A) (sym (eqb-suc-zero x)) (g (λ e. omega (arith, e)))

-- what a `?` hands up is the error that it met
pub passed_up : {T E : Type 0} (P : Result T E → Type 0) (r : Result T E) {e : E} → IsErrAnd r (λ y. y ≡ e) → P (Err e) → P r
passed_up P (Ok x) h p = absurd h
passed_up P (Err y) h p = subst (λ z. P (Err z)) (sym h) p
