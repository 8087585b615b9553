-- The laws of the seven digits: each is a test that antt computes at all seven rows of the table.
use mathlib.Core.Path.{◌≡◌, refl, sym, ap, ◌∙◌}
use mathlib.Core.Logic.{inl, inr}
use mathlib.Core.Bool.{Bool, true, false, not, ◌||◌}
use Prim.Native.Nat.{ℕ, ◌%◌, ◌≤◌, ◌<◌}
use native.Mathlib.Omega.{arith}
use lib.Dec.{T, eqb, ltb, eqb→eq, ltb→lt, lit<}
use borrow.Author.Tests.{ne_eqb, le-ltb}
use lib.ListN.{get_or-eq_default}
use Rattle.ground.specs.Search.{all}
use Rattle.ground.proofs.Bools.{lt_or_ge}
use Rattle.ground.proofs.Search.{all-at}
use Rattle.knowledge_acts.specs.Seven.{told, rows, start_told, now_told, after_set, after_look, first_digit}

-- an equation of two numbers that the table gives holds at each digit if antt computes it at all seven
pub at-digit : (f g : ℕ → ℕ) → T (all 7 (λ d. eqb (f d) (g d))) → (d : ℕ) → d < 7 → f d ≡ g d
at-digit f g t d h = eqb→eq (f d) (g d) (all-at 7 (λ d. eqb (f d) (g d)) t d h)

-- what is no digit tells nothing
pub now_past : (d : ℕ) → 7 ≤ d → now_told d ≡ 0
unfolding now_told
now_past d h = ap (λ r. r.now_side) (get_or-eq_default rows _ h)

pub start_past : (d : ℕ) → 7 ≤ d → start_told d ≡ 0
unfolding start_told
start_past d h = ap (λ r. r.start_side) (get_or-eq_default rows _ h)

pub set_past : (d : ℕ) (b : Bool) → 7 ≤ d → after_set d b ≡ 0
unfolding after_set
set_past d false h = ap (λ r. r.set_false) (get_or-eq_default rows _ h)
set_past d true h = ap (λ r. r.set_true) (get_or-eq_default rows _ h)

-- after a set the present value is known to be the value set, and the start side is what it was
pub now_set : (d : ℕ) (b : Bool) → d < 7 → now_told (after_set d b) ≡ told b
unfolding all now_told after_set
now_set d false h = at-digit (λ d. now_told (after_set d false)) (λ d. 1) tt d h
now_set d true h = at-digit (λ d. now_told (after_set d true)) (λ d. 2) tt d h

pub start_set : (d : ℕ) (b : Bool) → d < 7 → start_told (after_set d b) ≡ start_told d
unfolding all start_told after_set
start_set d false h = at-digit (λ d. start_told (after_set d false)) start_told tt d h
start_set d true h = at-digit (λ d. start_told (after_set d true)) start_told tt d h

-- every digit is a digit, and every side one of three
pub set_lt : (d : ℕ) (b : Bool) → d < 7 → after_set d b < 7
unfolding all after_set
set_lt d false h = ltb→lt (after_set d false) 7 (all-at 7 (λ d. ltb (after_set d false) 7) tt d h)
set_lt d true h = ltb→lt (after_set d true) 7 (all-at 7 (λ d. ltb (after_set d true) 7) tt d h)

pub look_lt : (b : Bool) → after_look b < 7
unfolding after_look
look_lt false = lit< tt
look_lt true = lit< tt

pub first_lt : (known value : Bool) → first_digit known value < 7
unfolding first_digit
first_lt false value = lit< tt
first_lt true false = lit< tt
first_lt true true = lit< tt

pub now_lt : (d : ℕ) → now_told d < 3
unfolding all now_told
now_lt d = elim (lt_or_ge d 7) [
  | inl h ↦ ltb→lt (now_told d) 3 (all-at 7 (λ d. ltb (now_told d) 3) tt d h)
  | inr h ↦ rw (now_past d h) (lit< tt)
]

pub start_lt : (d : ℕ) → start_told d < 3
unfolding all start_told
start_lt d = elim (lt_or_ge d 7) [
  | inl h ↦ ltb→lt (start_told d) 3 (all-at 7 (λ d. ltb (start_told d) 3) tt d h)
  | inr h ↦ rw (start_past d h) (lit< tt)
]

-- after a look the present value is known to be what was seen
pub now_look : (b : Bool) → now_told (after_look b) ≡ told b
unfolding now_told after_look
now_look false = refl
now_look true = refl

-- neither a set nor a look leaves digit 0, the one that leaves the present value unknown
pub set_known : (d : ℕ) (b : Bool) → d < 7 → after_set d b ≡ 0 → ⊥
unfolding now_told
set_known d false h e = let z : ◌≡◌ {A = ℕ} 0 1 = sym (ap now_told e) ∙ now_set d false h in omega arith
set_known d true h e = let z : ◌≡◌ {A = ℕ} 0 2 = sym (ap now_told e) ∙ now_set d true h in omega arith

pub look_known : (b : Bool) → after_look b ≡ 0 → ⊥
unfolding now_told
look_known false e = let z : ◌≡◌ {A = ℕ} 0 1 = sym (ap now_told e) ∙ now_look false in omega arith
look_known true e = let z : ◌≡◌ {A = ℕ} 0 2 = sym (ap now_told e) ∙ now_look true in omega arith

-- what is known at the start has the digit of a look
pub first-known : (b : Bool) → first_digit true b ≡ after_look b
unfolding first_digit after_look
first-known false = refl
first-known true = refl

-- the columns as code tells them apart
module _ (d : ℕ) where
  pub now_odd : d < 7 → d % 2 ≡ 1 → now_told d ≡ 1
  unfolding all now_told
  now_odd h e =
      eqb→eq (now_told d) 1 (rw e at (all-at 7 (λ d. not (eqb (d % 2) 1) || eqb (now_told d) 1) tt d h))

  pub now_even : d < 7 → (d ≡ 0 → ⊥) → (d % 2 ≡ 1 → ⊥) → now_told d ≡ 2
  unfolding all now_told
  now_even h z e =
      eqb→eq (now_told d) 2
      (rw (ne_eqb d 0 z, ne_eqb (d % 2) 1 e) at (all-at 7 (λ d. eqb d 0 || (eqb (d % 2) 1 || eqb (now_told d) 2)) tt d h))

  pub start_low : d < 3 → start_told d ≡ 0
  unfolding all start_told
  start_low h = eqb→eq (start_told d) 0 (all-at 3 (λ d. eqb (start_told d) 0) tt d h)

  pub start_middle : 3 ≤ d → d < 5 → start_told d ≡ 1
  unfolding all start_told
  start_middle l h = eqb→eq (start_told d) 1 (rw (le-ltb d 3 l) at (all-at 5 (λ d. ltb d 3 || eqb (start_told d) 1) tt d h))

  pub start_high : 5 ≤ d → d < 7 → start_told d ≡ 2
  unfolding all start_told
  start_high l h = eqb→eq (start_told d) 2 (rw (le-ltb d 5 l) at (all-at 7 (λ d. ltb d 5 || eqb (start_told d) 2) tt d h))
