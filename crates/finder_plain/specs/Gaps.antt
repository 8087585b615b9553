-- Inside: a gap among the entries, a value that no state of n settings has.
use Rattle.std.specs.Prelude.{◌≡◌, Bool, true, false, List, ℕ, ◌^◌, ◌<◌, length, get_or}

-- the values of the first entries are marked
pub record SeenBelow (entries : List ℕ) (count : ℕ) (found : List Bool) : Type 0 where
  pub size : length found ≡ 256
  pub marked : (k : ℕ) → k < count → get_or found (get_or entries k 0) false ≡ true

-- a value below top that no state of n settings has
pub record Gap (n : ℕ) (entries : List ℕ) (top : ℕ) : Type 0 where
  pub value : ℕ
  pub low : value < top
  pub nowhere : (k : ℕ) → k < 7 ^ n → get_or entries k 0 ≡ value → ⊥

-- yes, there is one; no promises nothing, and the next height is tried
abbrev pub FindsGap : ℕ → List ℕ → ℕ → Bool → Type 0
FindsGap n entries top r = r ≡ true → Gap n entries top
