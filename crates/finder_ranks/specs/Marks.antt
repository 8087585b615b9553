-- The marks of a goal in a rank table, from the tables of its two halves. For the crate's own functions.
use Rattle.std.specs.Prelude.{◌≡◌, List, Bool, true, false, not, ◌&&◌, cond, ℕ, ◌^◌, ◌≤◌, ◌<◌, eqb, length, get_or}
use Rattle.finder_sides.specs.Sides.{now_side_number, start_side_number}

-- the mark of a state: 0 where its entries in both tables are not 0, else 255
abbrev pub rank_if : Bool → ℕ
rank_if true = 0
rank_if false = 255

unfoldable pub mark_of : ℕ → ℕ → ℕ
mark_of done known = rank_if (not (eqb done 0) && not (eqb known 0))

-- the mark of a knowledge number, by the present and the start side that it shows
unfoldable pub mark_at : ℕ → List ℕ → List ℕ → ℕ → ℕ
mark_at n made learnt k = mark_of (get_or made (now_side_number n k) 0) (get_or learnt (start_side_number n k) 0)

-- the first 7^n bytes of the rank table are marked, 0 where the goal is settled; later bytes keep what they held
pub record Marks (n : ℕ) (goal : ℕ → Bool) (old new : List ℕ) : Type 0 where
  pub long : length new ≡ length old
  pub marked : (k : ℕ) → k < 7 ^ n → get_or new k 0 ≡ rank_if (goal k)
  pub kept : (k : ℕ) → 7 ^ n ≤ k → get_or new k 0 ≡ get_or old k 0

-- f was stored at each place from a to e, and nothing elsewhere
pub record Stored (f : ℕ → ℕ) (a e : ℕ) (old new : List ℕ) : Type 0 where
  pub long : length new ≡ length old
  pub here : (k : ℕ) → a ≤ k → k < e → get_or new k 0 ≡ f k
  pub before : (k : ℕ) → k < a → get_or new k 0 ≡ get_or old k 0
  pub after : (k : ℕ) → e ≤ k → get_or new k 0 ≡ get_or old k 0

-- the mark of a state in a first leg, by the second leg's entry there: none where that has no rank
unfoldable pub mark_then : ℕ → ℕ → ℕ
mark_then rank2 mark = cond (eqb rank2 255) 255 mark

-- of the first 7^n marks those are taken away where the second leg's table has 255
abbrev pub Unmarked : ℕ → List ℕ → List ℕ → List ℕ → Type 0
Unmarked n ranks2 old new = Stored (λ k. mark_then (get_or ranks2 k 0) (get_or old k 0)) 0 (7 ^ n) old new
