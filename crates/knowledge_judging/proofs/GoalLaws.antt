-- The goal's judgement on a state is the judgement on its number: rules and learn tables are judged by sixteen bytes, table after table.
use mathlib.Core.Path.{◌≡◌, sym, ap, ◌∙◌}
use mathlib.Core.Bool.{Bool, true, false, cond, ◌&&◌}
use mathlib.Core.List.{List}
use Prim.Native.Nat.{ℕ, ◌*◌, ◌/◌, ◌≤◌, ◌<◌}
use native.Mathlib.Nat.{zero-add}
use native.Mathlib.Omega.{arith}
use lib.Dec.{leb, not_T}
use lib.ListN.{length, drop}
use borrow.Author.Tests.{le-leb}
use Rattle.std.specs.Bool.{MatchBool}
use Rattle.std.specs.List.{range_with_len, AllWithin, HoldsAt}
use Rattle.std.proofs.lemmas.List.FromFn.{length-range_with_len, get_or-range_with_len}
use Rattle.ground.specs.Digits.{digit}
use Rattle.ground.specs.Search.{all}
use Rattle.ground.proofs.Bools.{T→true, T→false, false→T, both, true→T}
use Rattle.ground.proofs.Search.{all-at, all_intro, all_ext}
use Rattle.knowledge_acts.specs.Seven.{start_told, now_told}
use Rattle.knowledge.specs.Number.{digit_in, digits_of}
use Rattle.knowledge.specs.Fits.{now_side, start_side}
use Rattle.knowledge.specs.Judgement.{judgement, holds, settles, known, learn_settled}
use Rattle.knowledge.specs.declared.judgement.Judgement.{Judgement}
use Rattle.knowledge.specs.declared.judgement.Judgement.TheVariants.{Neither}
use Rattle.knowledge.proofs.JudgementLaws.{judgement-take, judgement_ext}
use Rattle.knowledge.proofs.Number.{digit_in_lem}
use Rattle.knowledge.specs.Goal.{goal_of, learn_table, all_settled, goal_settled}

-- what is guarded by at most seven settings
pub within_seven : {A : Type 0} (n : ℕ) (x y : A) → n ≤ 7 → cond (leb n 7) x y ≡ x
within_seven n x y h = rw (le-leb n 7 h)

pub unguarded : (n : ℕ) (b : Bool) → n ≤ 7 → leb n 7 && b ≡ b
unguarded n b h = rw (le-leb n 7 h)

module _ (n : ℕ) (d : ℕ → ℕ) (learn : List ℕ) where
  -- what the test of the table with index j tells, as the code has it
  abbrev pub tested : ℕ → Bool
  tested j = settles (cond (leb n 7) (judgement n (start_side d) (drop (16 * j) learn)) Neither)

  abbrev at_table : ℕ → Bool
  at_table j = learn_settled n d (learn_table learn j)

  module _ (few : n ≤ 7) where
    tested-is : (j : ℕ) → tested j ≡ at_table j
    unfolding learn_table learn_settled
    tested-is j = ap settles (within_seven n _ _ few ∙ sym (judgement-take n (start_side d) (drop (16 * j) learn) few))

    -- the test of all the learn tables, from first to last
    pub learnt_told : (r : Bool)
        → MatchBool r (AllWithin (λ j. tested j ≡ true) (range_with_len 0 (length learn / 16)) 0 (length (range_with_len 0 (length learn / 16))))
        ((k : ℕ) × (k < length (range_with_len 0 (length learn / 16))) × HoldsAt (λ j. tested j ≡ false) (range_with_len 0 (length learn / 16)) k)
        → r ≡ all_settled n d learn
    unfolding all_settled
    learnt_told true every =
        sym (T→true (all (length learn / 16) at_table) (all_intro (length learn / 16) at_table (λ i h.
        let here = get_or-range_with_len 0 (length learn / 16) i 0 h ∙ zero-add i in
        true→T (sym (tested-is i) ∙ (rw here at (every i 0 (omega arith) (omega (arith, h, length-range_with_len 0 (length learn / 16)))))))))
    learnt_told false (k, l, none) =
        let h : k < length learn / 16 = omega (arith, l, length-range_with_len 0 (length learn / 16)) in
        let here = get_or-range_with_len 0 (length learn / 16) k 0 h ∙ zero-add k in
        sym (T→false (all (length learn / 16) at_table)
        (not_T (all (length learn / 16) at_table) (λ t. both (at_table k) (all-at (length learn / 16) at_table t k h)
        (false→T (sym (tested-is k) ∙ (rw here at (none 0)))))))

-- the digits of a state of k are those of k, as far as up to seven settings look
module _ (n k : ℕ) (few : n ≤ 7) {ds : List ℕ} (e : ds ≡ digits_of k) where
  same-digit : (i : ℕ) → i < n → digit_in ds i ≡ digit 7 k i
  same-digit i l = ap (λ (xs : List ℕ). digit_in xs i) e ∙ digit_in_lem k i (omega arith)

  known-number : (t : List ℕ) → known n (digit_in ds) t ≡ known n (digit 7 k) t
  unfolding known
  known-number t = ap holds (judgement_ext n (now_side (digit_in ds)) (now_side (digit 7 k)) t (λ i l. ap now_told (same-digit i l)))

  learn-number : (t : List ℕ) → learn_settled n (digit_in ds) t ≡ learn_settled n (digit 7 k) t
  unfolding learn_settled
  learn-number t = ap settles (judgement_ext n (start_side (digit_in ds)) (start_side (digit 7 k)) t (λ i l. ap start_told (same-digit i l)))

  settled-number : (learn : List ℕ) → all_settled n (digit_in ds) learn ≡ all_settled n (digit 7 k) learn
  unfolding all_settled
  settled-number learn = all_ext (length learn / 16) _ _ (λ j h. learn-number (learn_table learn j))

  -- the judgements on the state of k, as `is_settled` has them
  module _ (make learn : List ℕ) {judged : Judgement} {r : Bool} (by_side : judged ≡ cond (leb n 7) (judgement n (now_side (digit_in ds)) make) Neither) (f : r ≡ holds judged) where
    made : (b : Bool) → r ≡ b → known n (digit 7 k) make ≡ b
    unfolding known
    made b g = sym (known-number make) ∙ sym (ap holds (by_side ∙ within_seven n _ _ few)) ∙ sym f ∙ g

    pub goal-not : r ≡ false → false ≡ leb n 7 && goal_settled n (goal_of make learn) k
    unfolding goal_settled
    goal-not g = rw (le-leb n 7 few, made false g)

    pub goal-learnt : {s : Bool} → r ≡ true → s ≡ all_settled n (digit_in ds) learn → s ≡ leb n 7 && goal_settled n (goal_of make learn) k
    unfolding goal_settled
    goal-learnt g h = rw (le-leb n 7 few, made true g) (h ∙ settled-number learn)
