-- The marks: the knowledge numbers with the same digits but the lowest show sides that differ in the lowest setting alone; and what a loop has stored
-- between two places goes on by one store, or by one run of stores.
use mathlib.Core.Path.{◌≡◌, refl, sym, ◌∙◌}
use mathlib.Core.Logic.{◌⊎◌, inl, inr}
use mathlib.Core.List.{List}
use mathlib.Core.Bool.{Bool, true, false, not, ◌&&◌, cond}
use Prim.Native.Nat.{ℕ, zero, suc, ◌+◌, ◌*◌, ◌-◌, ◌^◌, ◌≤◌, ◌<◌}
use native.Mathlib.Nat.{pow-suc}
use native.Mathlib.Decide.{ℕ_discrete}
use native.Mathlib.Omega.{arith}
use lib.Dec.{T, eqb}
use lib.ListN.{length, get_or, set, length-set}
use lib.Seq.{get_or-set_same, get_or-set_other}
use Rattle.knowledge_acts.specs.Seven.{now_told, start_told}
use Rattle.knowledge_acts.proofs.Seven.{now_lt, start_lt}
use Rattle.finder_sides.specs.Sides.{now_side_number, start_side_number}
use Rattle.finder_sides.specs.Tables.{goal_at}
use Rattle.finder_sides.proofs.Shown.{now_number_lt, start_number_lt, now_low, start_low}
use Rattle.finder_sides.proofs.CountLaws.{sides-most}
use Rattle.finder_ranks.specs.Ranks.{rank}
use Rattle.finder_ranks.specs.Marks.{rank_if, mark_of, mark_at, mark_then, Marks, Stored, Unmarked}
use Rattle.finder_ranks.specs.Fills.{goal_then}

-- ---- runs of stores

module _ {f : ℕ → ℕ} where
  pub stored_more : {a e : ℕ} {old mid : List ℕ} (g x : ℕ) → Stored f a e old mid → a ≤ e → e < length mid → g ≡ e + 1 → x ≡ f e
      → Stored f a g old (set mid e x)
  stored_more {a} {e} {old} {mid} g x s up fits next same = record {
    long = length-set mid e x ∙ s.long;
    here = λ k h l. elim (ℕ_discrete k e) [
      | yes q ↦ rw (q, get_or-set_same mid e x 0 fits) same
      | no q ↦ get_or-set_other mid e k x 0 q ∙ s.here k h (omega arith)
    ];
    before = λ k h. get_or-set_other mid e k x 0 (λ q. absurd (omega arith)) ∙ s.before k h;
    after = λ k h. get_or-set_other mid e k x 0 (λ q. absurd (omega arith)) ∙ s.after k (omega arith);
  }

-- ---- the seven states that differ in setting 0

pub now_told_lem : (x d : ℕ) → d < 7 → x ≡ now_told d → x < 3
now_told_lem x d h e = rw e (now_lt d)

pub start_told_lem : (x d : ℕ) → d < 7 → x ≡ start_told d → x < 3
start_told_lem x d h e = rw e (start_lt d)

-- the mark of a state by the digits above the lowest, and the lowest
pub mark_low : (n rest d : ℕ) (made learnt : List ℕ) → 0 < n → d < 7
    → mark_at n made learnt (rest * 7 + d)
    ≡ mark_of (get_or made (now_side_number (n - 1) rest * 3 + now_told d) 0) (get_or learnt (start_side_number (n - 1) rest * 3 + start_told d) 0)
unfolding mark_at
mark_low zero rest d made learnt some h = absurd (omega arith)
mark_low (suc m) rest d made learnt some h =
    let e : suc m - 1 ≡ m = omega arith in
    rw (e, now_low m rest d h, start_low m rest d h) refl

-- an index of the sides of one setting more
pub side_index : (n x d : ℕ) → 0 < n → n ≤ 7 → x < 3 ^ (n - 1) → d < 3 → x * 3 + d < 2187
side_index zero x d some most h l = absurd (omega arith)
side_index (suc m) x d some most h l =
    let e : suc m - 1 ≡ m = omega arith in
    let k = rw e at h in
    let w : 3 ^ m * 3 ≤ 2187 = rw (pow-suc 3 m) at (sides-most (suc m) most) in omega arith

-- as many sevens of states as one setting fewer has states
pub sevens : (n : ℕ) → 0 < n → 7 ^ n ≡ 7 ^ (n - 1) * 7
sevens zero some = absurd (omega arith)
sevens (suc m) some = let e : suc m - 1 ≡ m = omega arith in rw (e, pow-suc) refl

-- all of them
pub marks-all : {n e : ℕ} (made learnt : List ℕ) {old new : List ℕ} → Stored (mark_at n made learnt) 0 e old new → e ≡ 7 ^ n → Marks n (goal_at n made learnt) old new
unfolding mark_at mark_of goal_at
marks-all {n} {e} made learnt s q = record {
  long = s.long;
  marked = λ k h. s.here k (omega arith) (omega arith);
  kept = λ k h. s.after k (omega arith);
}

-- the seven states that differ in setting 0
module _ (n rest : ℕ) {now start : ℕ} (some : 0 < n) (most : n ≤ 7) (now_is : now ≡ now_side_number (n - 1) rest) (start_is : start ≡ start_side_number (n - 1) rest) where
  pub now_index : (x : ℕ) → x < 3 → now * 3 + x < 2187
  now_index x h = rw now_is (side_index n (now_side_number (n - 1) rest) x some most (now_number_lt (n - 1) rest) h)

  pub start_index : (x : ℕ) → x < 3 → start * 3 + x < 2187
  start_index x h = rw start_is (side_index n (start_side_number (n - 1) rest) x some most (start_number_lt (n - 1) rest) h)

  pub mark_here : (d : ℕ) {x y r : ℕ} (made learnt : List ℕ) → d < 7 → x ≡ now_told d → y ≡ start_told d
      → r ≡ mark_of (get_or made (now * 3 + x) 0) (get_or learnt (start * 3 + y) 0) → r ≡ mark_at n made learnt (rest * 7 + d)
  mark_here d made learnt h e f q = q ∙ rw (now_is, start_is, e, f) (sym (mark_low n rest d made learnt some h))

-- they are all in the table
pub seven_fit : (n rest m : ℕ) → 0 < n → rest < 7 ^ (n - 1) → 7 ^ n ≤ m → rest * 7 + 7 ≤ m
seven_fit n rest m some h l = omega (arith, sevens n some)

-- ---- what a mark says

if_goal : (b : Bool) → T b → rank_if b ≡ 0
if_goal true h = refl
if_goal false h = elim h [ ]

goal_if : (b : Bool) → rank_if b ≡ 0 → T b
goal_if true e = tt
goal_if false e = absurd (omega (arith, e))

if_either : (b : Bool) → (rank_if b ≡ 0) ⊎ (rank_if b ≡ 255)
if_either true = inl refl
if_either false = inr refl

module _ {n : ℕ} {goal : ℕ → Bool} {old new : List ℕ} (m : Marks n goal old new) (k : ℕ) (h : k < 7 ^ n) where
  pub marked-goal : T (goal k) → rank new k ≡ 0
  marked-goal t = m.marked k h ∙ if_goal (goal k) t

  pub goal-marked : rank new k ≡ 0 → T (goal k)
  goal-marked e = goal_if (goal k) (sym (m.marked k h) ∙ e)

  pub marked_either : (rank new k ≡ 0) ⊎ (rank new k ≡ 255)
  marked_either = elim (if_either (goal k)) [ inl e ↦ inl (m.marked k h ∙ e) | inr e ↦ inr (m.marked k h ∙ e) ]

-- ---- the marks of a first leg

mark_both : (goal none : Bool) → cond none 255 (rank_if goal) ≡ rank_if (goal && not none)
mark_both true true = refl
mark_both true false = refl
mark_both false true = refl
mark_both false false = refl

-- marked by its own goal, and then without the marks where the second leg has no rank
pub marks_then : {n : ℕ} (made learnt ranks2 : List ℕ) {old mid new : List ℕ} → Marks n (goal_at n made learnt) old mid → Unmarked n ranks2 mid new
    → Marks n (goal_then n made learnt ranks2) old new
unfolding goal_then mark_then
marks_then {n} made learnt ranks2 m u = record {
  long = u.long ∙ m.long;
  marked = λ k h. u.here k (omega arith) h ∙ rw (m.marked k h) (mark_both (goal_at n made learnt k) (eqb (rank ranks2 k) 255));
  kept = λ k h. u.after k h ∙ m.kept k h;
}
