-- `knowledge_acts::digit::after_set` meets its contract: the constant table agrees with the table of specs/, by a test at each digit.
use mathlib.Core.List.{List, [], ◌∷◌}
use mathlib.Core.Path.{◌≡◌, sym}
use mathlib.Core.Bool.{true, false}
use Prim.Native.Nat.{ℕ, ◌<◌}
use lib.ListN.{get_or}
use Rattle.ground.specs.Search.{all}
use Rattle.knowledge_acts.specs.Seven.{after_set}
use Rattle.knowledge_acts.proofs.Seven.{at-digit, set_past}
use Rattle.knowledge_acts.proofs.digit.after_set.Goals as goal

-- the constant
table : List (List ℕ)
table =
    (1 ∷ 2 ∷ []) ∷ (1 ∷ 2 ∷ []) ∷ (1 ∷ 2 ∷ []) ∷ (3 ∷ 4 ∷ []) ∷ (3 ∷ 4 ∷ []) ∷ (5 ∷ 6 ∷ []) ∷ (5 ∷ 6 ∷ []) ∷ []

set_true : (d : ℕ) → d < 7 → get_or (get_or table d []) 1 0 ≡ after_set d true
unfolding table all after_set
set_true d h = at-digit (λ d. get_or (get_or table d []) 1 0) (λ d. after_set d true) tt d h

set_false : (d : ℕ) → d < 7 → get_or (get_or table d []) 0 0 ≡ after_set d false
unfolding table all after_set
set_false d h = at-digit (λ d. get_or (get_or table d []) 0 0) (λ d. after_set d false) tt d h

pub returns-then-digit-ge-DIGITS : goal.returns-then-digit-ge-DIGITS
returns-then-digit-ge-DIGITS c = sym (set_past _ _ c.if-digit-ge-DIGITS.true)

pub returns-then-value : goal.returns-then-value
unfolding table
returns-then-value c = rw c.if-value.true (set_true _ c.if-digit-ge-DIGITS.false)

pub returns-else-value : goal.returns-else-value
unfolding table
returns-else-value c = rw c.if-value.false (set_false _ c.if-digit-ge-DIGITS.false)
