-- The tables over all sides that the finder works with: which posts of a team may act there, and the two halves of the goal. Each entry is what the one
-- judgement (knowledge/specs/Judgement) says at that side.
use Rattle.std.specs.Prelude.{◌≡◌, List, [], Bool, true, false, not, ◌&&◌, cond, ℕ, ◌^◌, ◌≤◌, ◌<◌, eqb, length, get_or}
use Rattle.ground.specs.Digits.{digit, bit}
use Rattle.ground.specs.Search.{all}
use Rattle.book_block.specs.Rule.{rule}
use Rattle.book_block.specs.declared.rule.Right.{Right}
use Rattle.knowledge.specs.Judgement.{judgement, holds, settles}
use Rattle.knowledge.specs.Goal.{learn_count, learn_table}
use Rattle.finder_sides.specs.Sides.{now_side_number, start_side_number}

-- the entry of setting i and side s
unfoldable pub entry : List (List ℕ) → ℕ → ℕ → ℕ
entry t i s = get_or (get_or t i []) s 0

-- the posts of the team that may act on setting i: none where it is held, by bit i of the mask
unfoldable pub acting_on : ℕ → ℕ → ℕ → ℕ
acting_on team held i = cond (bit held i) 0 team

-- bit q of the entry of setting i and side s: the post q is of those that may act on the setting, and its rule on it is known to hold at the side
abbrev pub Posts : ℕ → List ℕ → (ℕ → ℕ) → Right → List (List ℕ) → Type 0
Posts n book acting right t =
    (i s q : ℕ) → i < n → s < 3 ^ n → q < 8 → bit (entry t i s) q ≡ (bit (acting i) q && holds (judgement n (digit 3 s) (rule book i q right)))

-- the tables of `posts_allowed`: seven settings of 2187 sides, bytes, and 0 at every setting past n and every side past 3^n
pub record PostTables (n : ℕ) (book : List ℕ) (acting : ℕ → ℕ) (right : Right) (t : List (List ℕ)) : Type 0 where
  pub posts : Posts n book acting right t
  pub bytes : (i s : ℕ) → entry t i s < 256
  pub settings : length t ≡ 7
  pub sides : (i : ℕ) → i < 7 → length (get_or t i []) ≡ 2187
  pub no_setting : (i s : ℕ) → n ≤ i → entry t i s ≡ 0
  pub no_side : (i s : ℕ) → 3 ^ n ≤ s → entry t i s ≡ 0

abbrev pub one_of : Bool → ℕ
one_of true = 1
one_of false = 0

-- a table over the sides of n settings: entry s is 1 where f holds at the side s, else 0; past 3^n it is 0
pub record SideTable (n : ℕ) (f : ℕ → Bool) (t : List ℕ) : Type 0 where
  pub long : length t ≡ 2187
  pub each : (s : ℕ) → s < 3 ^ n → get_or t s 0 ≡ one_of (f s)
  pub past : (s : ℕ) → 3 ^ n ≤ s → get_or t s 0 ≡ 0

-- "the make formula is true at every fitting present valuation", at each side
abbrev pub Made : ℕ → List ℕ → List ℕ → Type 0
Made n make t = SideTable n (λ s. holds (judgement n (digit 3 s) make)) t

-- "each learn formula has one same value at all fitting start valuations", at each side
abbrev pub Learnt : ℕ → List ℕ → List ℕ → Type 0
Learnt n learn t = SideTable n (λ s. all (learn_count learn) (λ j. settles (judgement n (digit 3 s) (learn_table learn j)))) t

-- "The goal is settled": both halves hold at the state k, by the entries of its present and its start side
unfoldable pub goal_at : ℕ → List ℕ → List ℕ → ℕ → Bool
goal_at n made learnt k = not (eqb (get_or made (now_side_number n k) 0) 0) && not (eqb (get_or learnt (start_side_number n k) 0) 0)
