-- A table over all sides from one over all valuations: what each bit of an entry tells.
use Rattle.std.specs.Prelude.{◌≡◌, List, Bool, ◌&&◌, ℕ, ◌^◌, ◌≤◌, ◌<◌, length, get_or}
use Rattle.ground.specs.Digits.{digit, bit}
use Rattle.ground.specs.Table.{truth}
use Rattle.knowledge.specs.Fits.{always, is}

-- bit q of each column tells whether g holds and the table has the value b there
abbrev pub Column : ℕ → List ℕ → ℕ → Bool → Bool → List ℕ → Type 0
Column n columns q g b t = (v : ℕ) → v < 2 ^ n → bit (get_or columns v 0) q ≡ (g && is b (truth t v))

-- an entry at a side: each of its bits tells for all valuations that fit what the columns tell of each, and it is as small as the columns are
pub record FilledAt (n : ℕ) (columns : List ℕ) (s e : ℕ) : Type 0 where
  pub tells : (q : ℕ) (g b : Bool) (t : List ℕ) → Column n columns q g b t → bit e q ≡ (g && always b n (digit 3 s) t)
  pub small : (m : ℕ) → ((v : ℕ) → v < 2 ^ n → get_or columns v 0 < m) → e < m

-- a whole table over the sides
pub record Filled (n : ℕ) (columns t : List ℕ) : Type 0 where
  pub long : length t ≡ 2187
  pub each : (s : ℕ) → s < 3 ^ n → FilledAt n columns s (get_or t s 0)
  pub past : (s : ℕ) → 3 ^ n ≤ s → get_or t s 0 ≡ 0
