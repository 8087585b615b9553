-- A table of ranks and two tables of what is permitted: what they say of a state, a knowledge number, and of the acts at it.
use Rattle.std.specs.Prelude.{List, ◌≡◌, Bool, true, false, ℕ, ◌<◌, get_or}
use Rattle.ground.specs.Digits.{digit}
use Rattle.knowledge_acts.specs.Acts.{set_to, look_at}
use Rattle.finder_sides.specs.Sides.{now_side_number}
use Rattle.finder_sides.specs.Tables.{entry}

-- the entry of the state k
abbrev pub rank : List ℕ → ℕ → ℕ
rank t k = get_or t k 0

-- the table allows the act on setting i at the state k: the entry of the setting and of k's present side is not 0
abbrev pub May : List (List ℕ) → ℕ → ℕ → ℕ → Type 0
May table n k i = 0 < entry table i (now_side_number n k)

-- an act that is allowed at k has no outcome but with an entry below h: "set a setting false or true", or "look, where .. the digit is 0", which has two
-- outcomes
pub data HasLower (n : ℕ) (set look : List (List ℕ)) (t : List ℕ) (k h : ℕ) : Type 0 where
  by_set : (i : ℕ) (b : Bool) → i < n → May set n k i → rank t (set_to k i b) < h → HasLower n set look t k h
  by_look : (i : ℕ) → i < n → May look n k i → digit 7 k i ≡ 0 → rank t (look_at k i false) < h → rank t (look_at k i true) < h → HasLower n set look t k h
