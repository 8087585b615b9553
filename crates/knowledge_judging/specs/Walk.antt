-- Inside: what the walk over the valuations of a side promises. A side is two masks: bit i of the first where the value of setting i is unknown;
-- where it is not, bit i of the second is the value.
use Rattle.std.specs.Prelude.{◌≡◌, Bool, cond, false, List, ℕ, ◌+◌, ◌-◌, ◌^◌, ◌<◌, T, eqb}
use Rattle.std.specs.Int.Bits.{bit_and, bit_or}
use Rattle.ground.specs.Digits.{bit}
use Rattle.ground.specs.Search.{all}
use Rattle.ground.specs.Table.{truth}
use Rattle.knowledge_acts.specs.Seven.{unknown, told}
use Rattle.knowledge.specs.Fits.{implies, is}
use Rattle.knowledge_judging.specs.declared.masks.Masks.{Masks}

-- the masks of a side of n settings; an unknown setting has no value
pub record MasksOf (n : ℕ) (side : ℕ → ℕ) (m : Masks) : Type 0 where
  pub unknown_small : m.unknown < 2 ^ n
  pub values_small : m.values < 2 ^ n
  pub tells : (j : ℕ) → j < n → side j ≡ cond (bit m.unknown j) unknown (told (bit m.values j))
  pub clear : (j : ℕ) → j < n → T (bit m.unknown j) → bit m.values j ≡ false

-- some of the unknown settings: every bit of t is one of the mask
abbrev pub within : ℕ → ℕ → Bool
within t mask = eqb (bit_and t mask) t

-- those that come next, as numbers go up, and none after all of them: one is added where the known settings carry
abbrev pub next_of : ℕ → ℕ → ℕ
next_of mask t = bit_and (bit_or t (127 - mask) + 1) mask

-- the table has the value at these values, whichever of the unknown settings are true
unfoldable pub everywhere : Bool → List ℕ → ℕ → ℕ → Bool
everywhere value table mask values = all 128 (λ t. implies (within t mask) (is value (truth table (bit_or values t))))
