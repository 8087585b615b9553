-- What this crate's own functions promise one another; no other crate cites it.
use Rattle.std.specs.Prelude.{◌≡◌, List, Bool, true, false, not, ◌&&◌, ℕ, ◌+◌, ◌*◌, ◌^◌, ◌≤◌, ◌<◌, eqb, length, get_or}
use Rattle.ground.specs.Digits.{digit, bit}
use Rattle.ground.specs.Table.{truth}
use Rattle.book_block.specs.Rule.{rule}
use Rattle.book_block.specs.declared.rule.Right.{Right}
use Rattle.knowledge.specs.Judgement.{judgement, settles}
use Rattle.finder_sides.specs.Tables.{one_of}
use Rattle.knowledge_acts.specs.Seven.{unknown, told}
use Rattle.finder_sides.specs.Fill.{FilledAt}
use Rattle.finder_sides.specs.declared.told.SideTold.{SideTold}
use Rattle.finder_sides.specs.declared.told.SideTold.TheVariants.{Unknown, Valuation}

-- what holds of each of the first m columns
abbrev pub EachColumn : (ℕ → ℕ → Type 0) → ℕ → List ℕ → Type 0
EachColumn P m columns = (v : ℕ) → v < m → P v (get_or columns v 0)

-- bits one place up, with one more below them
abbrev pub doubled : ℕ → Bool → ℕ
doubled x b = x * 2 + one_of b

-- the column of the posts at a valuation
pub record PostsAt (book : List ℕ) (team i : ℕ) (right : Right) (v x : ℕ) : Type 0 where
  pub byte : x < 256
  pub posts : (q : ℕ) → q < 8 → bit x q ≡ (bit team q && truth (rule book i q right) v)

-- the column of the make formula, and of a learn formula: true is 1 and false is 2
abbrev pub MadeAt : List ℕ → ℕ → ℕ → Type 0
MadeAt make v x = x ≡ one_of (truth make v)

abbrev pub same_of : Bool → ℕ
same_of true = 1
same_of false = 2

abbrev pub SettledAt : List ℕ → ℕ → ℕ → Type 0
SettledAt t v x = x ≡ same_of (truth t v)

-- not 0 exactly where the formula is settled
pub record Settled (n : ℕ) (table t : List ℕ) : Type 0 where
  pub long : length t ≡ 2187
  pub each : (s : ℕ) → s < 3 ^ n → not (eqb (get_or t s 0) 0) ≡ settles (judgement n (digit 3 s) table)
  pub past : (s : ℕ) → 3 ^ n ≤ s → get_or t s 0 ≡ 0

unfoldable pub both_of : ℕ → ℕ → ℕ
both_of a b = one_of (not (eqb a 0) && not (eqb b 0))

pub record Meets (a b t : List ℕ) : Type 0 where
  pub long : length t ≡ 2187
  pub each : (s : ℕ) → s < 2187 → get_or t s 0 ≡ both_of (get_or a s 0) (get_or b s 0)

-- what a side tells: a setting that is unknown, by its power of 3, or the valuation that the side tells whole
abbrev pub SideTells : ℕ → ℕ → SideTold → Type 0
SideTells n side (Unknown power) = (i : ℕ) × (i < n) × (digit 3 side i ≡ unknown) × (power ≡ 3 ^ i)
SideTells n side (Valuation v) = (v < 2 ^ n) × ((i : ℕ) → i < n → digit 3 side i ≡ told (bit v i))

-- the entries from side x on
abbrev pub FilledFrom : ℕ → List ℕ → ℕ → List ℕ → Type 0
FilledFrom n columns x t = (s : ℕ) → x ≤ s → s < 3 ^ n → FilledAt n columns s (get_or t s 0)
