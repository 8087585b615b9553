-- What an act does to a knowledge number: one digit changes, and the number stays below 7 ^ n.
use mathlib.Core.Path.{◌≡◌}
use mathlib.Core.Bool.{Bool}
use Prim.Native.Nat.{ℕ, ◌^◌, ◌<◌}
use lib.Dec.{lit<}
use Rattle.ground.specs.Digits.{digit}
use Rattle.ground.proofs.Digits.{digit_lt, put_same, put_other, put_lt}
use Rattle.knowledge_acts.specs.Seven.{after_set, after_look}
use Rattle.knowledge_acts.specs.Acts.{set_to, look_at}
use Rattle.knowledge_acts.proofs.Seven.{set_lt, look_lt}

seven : 0 < 7
seven = lit< tt

module _ (k i : ℕ) (b : Bool) where
  small : digit 7 k i < 7
  small = digit_lt seven k i

  -- the digit of a changed state: at the act's setting, and elsewhere
  pub set_here : digit 7 (set_to k i b) i ≡ after_set (digit 7 k i) b
  unfolding set_to
  set_here = put_same seven k i (after_set (digit 7 k i) b) (set_lt (digit 7 k i) b small)

  pub set_other : (j : ℕ) → (j ≡ i → ⊥) → digit 7 (set_to k i b) j ≡ digit 7 k j
  unfolding set_to
  set_other j ne = put_other seven k i j (after_set (digit 7 k i) b) (set_lt (digit 7 k i) b small) ne

  pub look_here : digit 7 (look_at k i b) i ≡ after_look b
  unfolding look_at
  look_here = put_same seven k i (after_look b) (look_lt b)

  pub look_other : (j : ℕ) → (j ≡ i → ⊥) → digit 7 (look_at k i b) j ≡ digit 7 k j
  unfolding look_at
  look_other j ne = put_other seven k i j (after_look b) (look_lt b) ne

  -- an act keeps the number below 7 ^ n
  pub set_below : (n : ℕ) → k < 7 ^ n → i < n → set_to k i b < 7 ^ n
  unfolding set_to
  set_below n h l = put_lt seven k i n (after_set (digit 7 k i) b) h l (set_lt (digit 7 k i) b small)

  pub look_below : (n : ℕ) → k < 7 ^ n → i < n → look_at k i b < 7 ^ n
  unfolding look_at
  look_below n h l = put_lt seven k i n (after_look b) h l (look_lt b)
