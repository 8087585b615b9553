-- What a refusal of the finder or its plan can be at most: for those who pack the answer into one number.
use mathlib.Core.Path.{◌≡◌, sym, subst}
use mathlib.Core.Logic.{inl, inr}
use mathlib.Core.List.{List, [], ◌∷◌}
use Rattle.std.proofs.Common.{Ok, Err}
use Prim.Native.Nat.{ℕ, ◌^◌, ◌≤◌, ◌<◌}
use native.Mathlib.Omega.{arith}
use lib.ListN.{length}
use Rattle.refusal.specs.declared.Refusal.{Refusal}
use Rattle.refusal.specs.declared.Refusal.TheVariants.{RankRoom}
use Rattle.refusal.specs.Refusals.{place}
use Rattle.refusal.specs.Order.{when}
use Rattle.refusal.proofs.OrderLaws.{PlacesBelow, places_append, first-place-below}
use Rattle.book_sound.specs.Rows.{settings_of}
use Rattle.knowledge.specs.Goal.{Goal}
use Rattle.plan.specs.Plans.{System, Lawful, height}
use Rattle.plan.proofs.Ranks.{rank-small}
use Rattle.plan.proofs.Size.{works_permitted, size-most}
use Rattle.plan.proofs.Written.{written_works, written-height}
use Rattle.question.specs.Question.{start_of}
use Rattle.question.specs.Rows.{question_rows}
use Rattle.question.specs.declared.Question.{Question}
use Rattle.question.proofs.SystemLaws.{lawful, few}
use Rattle.question.proofs.Places.{question_places, leg_places}
use Rattle.question.specs.Legs.{leg_rows}
use Rattle.question.proofs.LegLaws.{first_leg_lawful}
use Rattle.finder.specs.Answers.{AnswersFrom}
use Rattle.finder.specs.FindsTwo.{Rooms, room_rows, find_two_rows, FindsTwo}
use Rattle.finder.specs.Finds.{Finds, find_rows}
use Rattle.finder.specs.declared.answer.Answer.TheVariants.{Reach}

pub find_places : (book : List ℕ) (q : Question) (goal : Goal) (ranks : List ℕ) → PlacesBelow 9 (find_rows book q goal ranks)
unfolding find_rows
find_places book q goal ranks =
    places_append 9 (question_rows book q goal) (when (length ranks < 7 ^ settings_of book) (RankRoom 0) ∷ []) (question_places book q goal)
    (λ _. ((λ i g. omega arith), λ _. tt))

-- a height is below 255, and a plan no longer than one that may be checked
answer-most : {n : ℕ} {S : System} → Lawful n S → n ≤ 7 → (k : ℕ) (old new : List ℕ) (h size : ℕ) → AnswersFrom S k old (Ok (Reach h size)) new → (h ≤ 254) × (size ≤ 32640)
answer-most {n} {S} law few k old new h size (least, (p, w, long, short, bytes)) =
    let low : h ≤ 254 = omega (arith, rank-small law k h few least) in
    let high : height p ≡ h = written-height S p k h w (inl least) in
    (low, omega (arith, long, size-most law p k few (works_permitted S p k (written_works S p k w)) (omega (arith, high, low))))

module _ (book : List ℕ) (q : Question) (goal : Goal) (ranks plan ranks' plan' : List ℕ) where
  pub place-small : (r : Refusal) → Finds book q goal ranks plan (Err r) ranks' plan' → place r < 9
  place-small r (inl u) =
      let e : r ≡ u.why = cc u.answered in
      subst (λ (x : Refusal). place x < 9) (sym e) (first-place-below 9 (find_rows book q goal ranks) (find_places book q goal ranks) u.first)
  place-small r (inr (n, m, v, l, f, a)) = subst (λ (x : Refusal). place x < 9) (sym a.0) (omega arith)

  pub reach_most : (h size : ℕ) → Finds book q goal ranks plan (Ok (Reach h size)) ranks' plan' → (h ≤ 254) × (size ≤ 32640)
  reach_most h size (inl u) = let e : Ok (Reach h size) ≡ Err u.why = u.answered in let z : ◌≡◌ {A = ℕ} 0 1 = cc in absurd (omega arith)
  reach_most h size (inr (n, m, v, l, f, a)) = answer-most (lawful v) (few v) (start_of q) plan plan' h size a

-- and of two legs

pub two_places : (book : List ℕ) (q : Question) (goal : Goal) (team2 : ℕ) (goal2 : Goal) (old : Rooms) → PlacesBelow 9 (find_two_rows book q goal team2 goal2 old)
unfolding find_two_rows
two_places book q goal team2 goal2 old =
    places_append 9 (leg_rows book q goal team2 goal2) (room_rows book old) (leg_places book q goal team2 goal2)
    (λ _. ((λ i g. omega arith), λ _. ((λ i g. omega arith), λ _. tt)))

module _ (book : List ℕ) (q : Question) (goal : Goal) (team2 : ℕ) (goal2 : Goal) (old new : Rooms) where
  pub two-place-small : (r : Refusal) → FindsTwo book q goal team2 goal2 old (Err r) new → place r < 9
  two-place-small r (inl u) =
      let e : r ≡ u.why = cc u.answered in
      subst (λ (x : Refusal). place x < 9) (sym e)
      (first-place-below 9 (find_two_rows book q goal team2 goal2 old) (two_places book q goal team2 goal2 old) u.first)
  two-place-small r (inr (n, m, v, room, a)) = subst (λ (x : Refusal). place x < 9) (sym a.answers.0) (omega arith)

  pub two_reach_most : (h size : ℕ) → FindsTwo book q goal team2 goal2 old (Ok (Reach h size)) new → (h ≤ 254) × (size ≤ 32640)
  two_reach_most h size (inl u) = let e : Ok (Reach h size) ≡ Err u.why = u.answered in let z : ◌≡◌ {A = ℕ} 0 1 = cc in absurd (omega arith)
  two_reach_most h size (inr (n, m, v, room, a)) =
      answer-most (first_leg_lawful book q goal team2 goal2 v) (few v.first) (start_of q) old.plan new.plan h size a.answers
