-- A state taken apart: its digits, and the present and the start side that they show. For the crate's own functions.
use Rattle.std.specs.Prelude.{◌≡◌, List, ℕ, ◌<◌, length, get_or}
use Rattle.ground.specs.Digits.{digit}
use Rattle.finder_sides.specs.Sides.{now_side_number, start_side_number}

-- a state k of n settings taken apart
pub record Apart (n k now start : ℕ) (digits : List ℕ) : Type 0 where
  pub long : length digits ≡ 7
  pub each : (i : ℕ) → i < n → get_or digits i 0 ≡ digit 7 k i
  pub now_is : now ≡ now_side_number n k
  pub start_is : start ≡ start_side_number n k
