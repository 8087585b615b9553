-- What the finder answers to valid legs with room for the ranks of both: it refuses nothing; what it found can be printed; and with the second leg's ranks
-- behind the first's, one table holds both.
use mathlib.Core.Path.{◌≡◌, sym, ◌∙◌, subst}
use mathlib.Core.Logic.{inl, inr}
use mathlib.Core.List.{List}
use Prim.Native.Nat.{ℕ, ◌+◌, ◌-◌, ◌*◌, ◌^◌, ◌≤◌, ◌<◌}
use native.Mathlib.Nat.{pow-le-pow_right}
use native.Mathlib.Omega.{arith}
use lib.Dec.{lit<}
use lib.ListN.{length, get_or, take, drop}
use lib.Seq.{sets, length-sets, length-take-le, get_or-take, ext_get_or}
use Rattle.std.proofs.Common.{Result}
use Rattle.refusal.specs.declared.Refusal.{Refusal}
use Rattle.ground.proofs.Bools.{lt_or_ge}
use Rattle.ground.proofs.Lists.{get_d_sets}
use Rattle.refusal.proofs.OrderLaws.{first-clear}
use Rattle.book_sound.proofs.Theorems.{sound-one}
use Rattle.plan.specs.Plans.{System}
use Rattle.plan.specs.Ranks.{IsRank}
use Rattle.plan.proofs.Ranks.{rank_unique}
use Rattle.question.specs.Question.{start_of}
use Rattle.question.proofs.SystemLaws.{few}
use Rattle.question.proofs.LegLaws.{first_leg_lawful}
use Rattle.finder.specs.Finds.{RanksFilled}
use Rattle.finder.specs.FindsTwo.{rooms_of, AnsweredTwo, FindsTwo}
use Rattle.finder.specs.declared.answer.Answer.{Answer}
use Rattle.finder.proofs.TwoLaws.{two-clear}
use Rattle.sheet_question.specs.declared.desk.AskedDesk.{AskedDesk}
use Rattle.sheet_question.proofs.DeskLaws.{get_d_sets-other}
use Rattle.sheet_ask.specs.Asks.{TwoFilled}
use Rattle.sheet_ask.specs.Inner.{question_in, goal_in, BothFit, FoundBoth, ToldBoth, Readable, Tells}
use Rattle.sheet_ask.proofs.FoundLaws.{answers-readable, answers-told}

-- ---- two tables in one

module _ {n : ℕ} {S R : System} {ranks ranks2 first second : List ℕ} (filled : RanksFilled n S ranks first) (also : RanksFilled n R ranks2 second)
    (room : 2 * 7 ^ n ≤ length ranks) (room2 : 7 ^ n ≤ length ranks2) where
  behind : List ℕ
  behind = take (7 ^ n) (drop 0 second)

  behind-size : length behind ≡ 7 ^ n
  unfolding behind
  behind-size = length-take-le (7 ^ n) second (omega (arith, also.size, room2))

  pub both_filled : {new : List ℕ} → new ≡ sets first (7 ^ n) (take (7 ^ n) (drop 0 second)) → TwoFilled n S R ranks new
  unfolding behind
  both_filled {new} e = subst (TwoFilled n S R ranks) (sym e) (record {
    size = length-sets first (7 ^ n) behind ∙ filled.size;
    first = λ k l. subst (IsRank S k) (sym (get_d_sets-other first (7 ^ n) behind k (inl l))) (filled.ranks k l);
    second = λ k l. subst (IsRank R k)
        (sym (get_d_sets first (7 ^ n) behind k (omega (arith, behind-size, filled.size, room)) (omega (arith, behind-size, l)) ∙ get_or-take (7 ^ n) second k 0 l))
        (also.ranks k l);
    later = λ j l. get_d_sets-other first (7 ^ n) behind j (inr (omega (arith, behind-size, l))) ∙ filled.later j (omega (arith, l));
  })

-- one such table alone
pub both_one : {n : ℕ} {S R : System} {old new other : List ℕ} → TwoFilled n S R old new → TwoFilled n S R old other → new ≡ other
both_one {n} {S} {R} {old} {new} {other} a b = ext_get_or 0 new other (a.size ∙ sym b.size) by_place
  where
    second-same : (k : ℕ) → k < 7 ^ n → get_or new (7 ^ n + k) 0 ≡ get_or other (7 ^ n + k) 0
    second-same k l = rank_unique R k (a.second k l) (b.second k l)

    by_place : (j : ℕ) → j < length new → get_or new j 0 ≡ get_or other j 0
    by_place j h = elim (lt_or_ge j (7 ^ n)) [
      | inl l ↦ rank_unique S j (a.first j l) (b.first j l)
      | inr l ↦ elim (lt_or_ge j (2 * 7 ^ n)) [
        | inl k ↦ subst (λ (i : ℕ). get_or new i 0 ≡ get_or other i 0) {x = 7 ^ n + (j - 7 ^ n)} {y = j} (omega (arith, l)) (second-same (j - 7 ^ n) (omega (arith, l, k)))
        | inr k ↦ a.later j k ∙ sym (b.later j k)
      ]
    ]

-- ---- the finder's answer

-- seven settings have room for their ranks
enough : (n : ℕ) (room : List ℕ) → n ≤ 7 → 823543 ≡ length room → 7 ^ n ≤ length room
enough n room h e =
    let most : 7 ^ n ≤ 7 ^ 7 = pow-le-pow_right (lit< tt) h in
    omega (arith, e, most)

module _ {n count : ℕ} {book : List ℕ} {first second : AskedDesk} (ranks ranks2 plan : List ℕ) (fit : BothFit n book first second count ranks)
    (answer : Result Answer Refusal) (ranks' ranks2' plan' : List ℕ)
    (found : FindsTwo book (question_in first) (goal_in first) second.question.team (goal_in second) (rooms_of ranks ranks2 plan) answer (rooms_of ranks' ranks2' plan'))
    (zeros : 823543 ≡ length ranks2) where
  abbrev Met : ℕ → Type 0
  Met k = AnsweredTwo k book (question_in first) (goal_in first) second.question.team (goal_in second) (rooms_of ranks ranks2 plan) answer (rooms_of ranks' ranks2' plan')

  room2 : 7 ^ n ≤ length ranks2
  room2 = enough n ranks2 (few fit.valid.first) zeros

  met : Met n
  met = by_case found
    where
      by_case : FindsTwo book (question_in first) (goal_in first) second.question.team (goal_in second) (rooms_of ranks ranks2 plan) answer (rooms_of ranks' ranks2' plan')
          → Met n
      by_case (inl u) =
          first-clear u.first (two-clear book (question_in first) (goal_in first) second.question.team (goal_in second) (rooms_of ranks ranks2 plan) fit.valid
          (record { first_room = omega (arith, fit.room); second_room = room2 }))
      by_case (inr (k, l, w, room, a)) = subst Met (sound-one w.first.sound fit.valid.first.sound).0 a

  pub two-found : {new : List ℕ} → new ≡ sets ranks' count (take count (drop 0 ranks2')) → FoundBoth n book first second ranks plan answer new plan'
  two-found {new} e = record {
    filled = both_filled met.first_ranks met.second_ranks fit.room room2
        (subst (λ (k : ℕ). new ≡ sets ranks' k (take k (drop 0 ranks2'))) fit.counted e);
    answers = met.answers;
  }

-- and its answer printed
module _ {n count : ℕ} {book : List ℕ} {first second : AskedDesk} {ranks : List ℕ} (fit : BothFit n book first second count ranks)
    (plan : List ℕ) (answer : Result Answer Refusal) (ranks' plan' : List ℕ) (found : FoundBoth n book first second ranks plan answer ranks' plan') where
  pub two-readable : Readable answer plan'
  two-readable =
      answers-readable (first_leg_lawful book (question_in first) (goal_in first) second.question.team (goal_in second) fit.valid) (few fit.valid.first)
      (start_of (question_in first)) plan plan' answer found.answers

  pub two-told : (out : List ℕ) (r : ℕ) (out' : List ℕ) → length plan ≡ 32640 → Tells answer plan' out r out' → ToldBoth n book first second ranks out r ranks' out'
  two-told out r out' size told = record {
    filled = found.filled;
    prints = answers-told (first_leg_lawful book (question_in first) (goal_in first) second.question.team (goal_in second) fit.valid) (few fit.valid.first)
        (start_of (question_in first)) plan plan' answer out r out' size found.answers told;
  }
