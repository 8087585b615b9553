-- What the tables over all sides say of a knowledge number: the entry at the side that it shows is the judgement that paper 01 words over its
-- digits, since a judgement reads nothing of a state but that side.
use mathlib.Core.Path.{◌≡◌, ap, ap₂, ◌∙◌}
use mathlib.Core.List.{List}
use mathlib.Core.Bool.{Bool, not, ◌&&◌}
use Prim.Native.Nat.{ℕ, ◌<◌}
use lib.Dec.{eqb}
use lib.ListN.{get_or}
use Rattle.ground.specs.Digits.{digit, bit}
use Rattle.ground.proofs.Search.{all_ext}
use Rattle.book_block.specs.Rule.{rule}
use Rattle.book_block.specs.declared.rule.Right.{Right}
use Rattle.knowledge.specs.Fits.{now_side, start_side}
use Rattle.knowledge.specs.Judgement.{judgement, holds, settles, known, learn_settled}
use Rattle.knowledge.specs.Goal.{learn_count, learn_table, all_settled}
use Rattle.knowledge.proofs.JudgementLaws.{judgement_ext}
use Rattle.finder_sides.specs.Sides.{now_side_number, start_side_number}
use Rattle.finder_sides.proofs.Shown.{now_number_lt, start_number_lt, now_digit, start_digit}
use Rattle.finder_sides.proofs.Ones.{side_some}
use Rattle.finder_sides.specs.Tables.{entry, PostTables, Made, Learnt, goal_at}

-- a judgement at the side that a knowledge number shows
module _ (n k : ℕ) (t : List ℕ) where
  pub known_now : holds (judgement n (digit 3 (now_side_number n k)) t) ≡ known n (digit 7 k) t
  unfolding known
  known_now = ap holds (judgement_ext n (digit 3 (now_side_number n k)) (now_side (digit 7 k)) t (now_digit n k))

  pub settled_start : settles (judgement n (digit 3 (start_side_number n k)) t) ≡ learn_settled n (digit 7 k) t
  unfolding learn_settled
  settled_start = ap settles (judgement_ext n (digit 3 (start_side_number n k)) (start_side (digit 7 k)) t (start_digit n k))

-- "A rule is known to hold", "the make formula is true at every fitting present valuation"
module _ (n : ℕ) (rule t : List ℕ) where
  pub made-known : Made n rule t → (k : ℕ) → not (eqb (get_or t (now_side_number n k) 0) 0) ≡ known n (digit 7 k) rule
  made-known table k = side_some table (now_side_number n k) (now_number_lt n k) ∙ known_now n k rule

-- "each learn formula has one same value at all fitting start valuations"
pub learnt-settled : (n : ℕ) (learn t : List ℕ) → Learnt n learn t → (k : ℕ) → not (eqb (get_or t (start_side_number n k) 0) 0) ≡ all_settled n (digit 7 k) learn
unfolding all_settled
learnt-settled n learn t table k =
    side_some table (start_side_number n k) (start_number_lt n k)
    ∙ all_ext (learn_count learn) _ _ (λ j h. settled_start n k (learn_table learn j))

-- "by a post of the team", of those that may act on the setting, where "its set rule for that post is known to hold", or its look rule
pub post-known : {n : ℕ} {acting : ℕ → ℕ} {book : List ℕ} {right : Right} {t : List (List ℕ)} → PostTables n book acting right t
    → (k i q : ℕ) → i < n → q < 8 → bit (entry t i (now_side_number n k)) q ≡ (bit (acting i) q && known n (digit 7 k) (rule book i q right))
post-known {n} {acting} {book} {right} table k i q h l =
    table.posts i (now_side_number n k) q h (now_number_lt n k) l ∙ ap (λ (x : Bool). bit (acting i) q && x) (known_now n k (rule book i q right))

-- "The goal is settled"
pub goal-at : {n : ℕ} (make learn : List ℕ) {made learnt : List ℕ} → Made n make made → Learnt n learn learnt
    → (k : ℕ) → goal_at n made learnt k ≡ (known n (digit 7 k) make && all_settled n (digit 7 k) learn)
unfolding goal_at
goal-at {n} make learn {made} {learnt} m l k = ap₂ ◌&&◌ (made-known n make made m k) (learnt-settled n learn learnt l k)
