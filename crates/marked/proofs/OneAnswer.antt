-- The contract of `find` leaves one answer to a valid question with room for the ranks: no refusal of 6 to 13 is its due, the least height and the plan
-- written are unique, and every state has a rank to fill the table with.
use mathlib.Core.Path.{◌≡◌, refl, sym, ap, ap₂, ◌∙◌, subst}
use mathlib.Core.Logic.{inl, inr}
use mathlib.Core.List.{List, ◌++◌}
use Prim.Native.Nat.{ℕ, zero, suc, ◌^◌, ◌≤◌, ◌<◌}
use native.Mathlib.Omega.{arith}
use lib.ListN.{length, get_or, set, drop, length-set}
use lib.Seq.{get_or-set_same, get_or-set_other}
use Rattle.std.specs.Prelude.{Result, Ok, Err}
use Rattle.refusal.specs.declared.Refusal.{Refusal}
use Rattle.ground.specs.Search.{Least}
use Rattle.ground.proofs.Bools.{lt_or_ge}
use Rattle.ground.proofs.Search.{least_unique}
use Rattle.refusal.specs.Order.{Clear}
use Rattle.refusal.proofs.OrderLaws.{first-clear, clear-append, clear-when, clear_none}
use Rattle.book_sound.proofs.SoundLaws.{sound-settings}
use Rattle.book_sound.proofs.Theorems.{sound-one}
use Rattle.plan.specs.Plans.{System, Lawful, Plan}
use Rattle.plan.specs.Ranks.{Reach as ReachIn, Cannot as CannotFrom, IsRank, Written}
use Rattle.plan.specs.Bytes.{encode}
use Rattle.plan.proofs.Ranks.{has-rank}
use Rattle.plan.proofs.Written.{written_works, written_unique}
use Rattle.question.specs.Question.{system_of, start_of}
use Rattle.question.specs.Asks.{ValidQuestion}
use Rattle.question.specs.declared.Question.{Question}
use Rattle.knowledge.specs.Goal.{Goal}
use Rattle.finder.specs.Finds.{RanksFilled, Finds, find_rows}
use Rattle.finder.specs.Answers.{AnswersFrom}
use Rattle.finder.specs.declared.answer.Answer.{Answer}
use Rattle.finder.specs.declared.answer.Answer.TheVariants.{Reach, Cannot}
use Rattle.question.proofs.RowLaws.{question_clear}

module _ {book : List ℕ} {q : Question} {goal : Goal} {n m : ℕ} (v : ValidQuestion book q goal n m) (ranks room : List ℕ) (l : 7 ^ n ≤ length ranks) where
  clear : Clear (find_rows book q goal ranks)
  unfolding find_rows
  clear =
      clear-append (question_clear v)
      (clear-when (λ h. omega (arith, l, subst (λ (x : ℕ). length ranks < 7 ^ x) (sound-settings v.sound) h)) clear_none)

  -- every result allowed answers the question
  pub answers : (a : Result Answer Refusal) (ranks' room' : List ℕ) → Finds book q goal ranks room a ranks' room' → AnswersFrom (system_of n book q goal) (start_of q) room a room'
  answers a ranks' room' (inl u) = first-clear u.first clear
  answers a ranks' room' (inr (k, o, d, e, f, g)) =
      let same : k ≡ n = (sound-one d.sound v.sound).0 in
      subst (λ (j : ℕ). AnswersFrom (system_of j book q goal) (start_of q) room a room') same g

module _ {n : ℕ} {S : System} (law : Lawful n S) (few : n ≤ 7) (k : ℕ) (room room' : List ℕ) where
  pub one_reach : (h : ℕ) (p : Plan) → Least (ReachIn S k) h → Written S k p → length (encode p) ≤ length room
      → (a : Result Answer Refusal) → AnswersFrom S k room a room' → (a ≡ (Ok (Reach h (length (encode p))))) × (room' ≡ encode p ++ drop (length (encode p)) room)
  one_reach h p least w big (Ok (Reach j size)) (m, (s, t, e, f, g)) =
      let z : s ≡ p = written_unique law few s p k t w in
      let y : size ≡ length (encode p) = e ∙ ap (λ (x : Plan). length (encode x)) z in
      (ap₂ (λ (h size : ℕ). Ok (Reach h size)) (least_unique m least) y, g ∙ ap₂ (λ (x : Plan) (i : ℕ). encode x ++ drop i room) z y)
  one_reach h p least w big (Ok Cannot) (m, s) = absurd (m p (written_works S p k w))
  one_reach h p least w big (Err r) (e, m, s) =
      let z : m.0 ≡ p = written_unique law few m.0 p k m.1 w in
      absurd (omega (arith, m.2, ap (λ (x : Plan). length (encode x)) z))

  pub one_cannot : CannotFrom S k → (a : Result Answer Refusal) → AnswersFrom S k room a room' → (a ≡ Ok Cannot) × (room' ≡ room)
  one_cannot none (Ok (Reach j size)) (m, (s, t, e, f, g)) = absurd (none s (written_works S s k t))
  one_cannot none (Ok Cannot) m = (refl, m.1)
  one_cannot none (Err r) (e, m, s) = absurd (none m.0 (written_works S m.0 k m.1))

-- a rank table with all ranks in it
unfoldable fill : (ℕ → ℕ) → ℕ → List ℕ → List ℕ
fill f zero l = l
fill f (suc i) l = set (fill f i l) i (f i)

fill_length : (f : ℕ → ℕ) (i : ℕ) (l : List ℕ) → length (fill f i l) ≡ length l
unfolding fill
fill_length f zero l = refl
fill_length f (suc i) l = length-set (fill f i l) i (f i) ∙ fill_length f i l

fill_later : (f : ℕ → ℕ) (i : ℕ) (l : List ℕ) (j : ℕ) → i ≤ j → get_or (fill f i l) j 0 ≡ get_or l j 0
unfolding fill
fill_later f zero l j h = refl
fill_later f (suc i) l j h = get_or-set_other (fill f i l) i j (f i) 0 (λ e. omega arith) ∙ fill_later f i l j (omega arith)

fill_at : (f : ℕ → ℕ) (i : ℕ) (l : List ℕ) → i ≤ length l → (j : ℕ) → j < i → get_or (fill f i l) j 0 ≡ f j
unfolding fill
fill_at f zero l b j h = absurd (omega arith)
fill_at f (suc i) l b j h = elim (lt_or_ge j i) [
  | inl x ↦ get_or-set_other (fill f i l) i j (f i) 0 (λ e. omega arith) ∙ fill_at f i l (omega arith) j x
  | inr x ↦ (let e : j ≡ i = omega arith in
      rw e (get_or-set_same (fill f i l) i (f i) 0 (omega (arith, fill_length f i l))))
]

pub all-ranks : {n : ℕ} {S : System} → Lawful n S → (old : List ℕ) → 7 ^ n ≤ length old → (new : List ℕ) × RanksFilled n S old new
all-ranks {n} {S} law old l =
    let f : ℕ → ℕ = λ k. (has-rank law k).0 in (
      fill f (7 ^ n) old,
      record {
        size = fill_length f (7 ^ n) old;
        ranks = λ k h. subst (IsRank S k) (sym (fill_at f (7 ^ n) old l k h)) (has-rank law k).1;
        later = λ j h. fill_later f (7 ^ n) old j h;
      },
    )
