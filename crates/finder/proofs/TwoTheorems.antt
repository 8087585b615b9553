-- What is promised of `find_two`, about its contract: "reach" exactly when there is a plan of the first team that works and leaves the second team a
-- working plan at each of its stops; the height named is the least, and the plan written is such a plan. What it gives is settled, all three rooms
-- included, and what each refusal leaves. Demand 3 is not claimed of two legs.
use mathlib.Core.Path.{◌≡◌, sym, ap, ◌∙◌, subst}
use mathlib.Core.Logic.{◌⊎◌, inl, inr}
use mathlib.Core.List.{List, ◌++◌}
use Rattle.std.proofs.Common.{Result, Ok, Err}
use Prim.Native.Nat.{ℕ, ◌≤◌, ◌<◌}
use native.Mathlib.Omega.{arith}
use lib.ListN.{length, drop}
use Rattle.refusal.specs.declared.Refusal.{Refusal}
use Rattle.refusal.specs.declared.Refusal.TheVariants.{PlanRoom}
use Rattle.refusal.specs.Order.{First}
use Rattle.refusal.proofs.OrderLaws.{first_unique, first-clear}
use Rattle.book_sound.proofs.Theorems.{sound-one}
use Rattle.knowledge.specs.Goal.{Goal}
use Rattle.plan.specs.Plans.{Plan, height}
use Rattle.plan.specs.Ranks.{Written}
use Rattle.plan.specs.Bytes.{encode}
use Rattle.plan.proofs.Written.{written_works}
use Rattle.plan.proofs.Legs.{then_works, works_then}
use Rattle.question.specs.Question.{system_of, start_of}
use Rattle.question.specs.Legs.{second_system, first_system, WorksForTwo, ValidLegs}
use Rattle.question.specs.declared.Question.{Question}
use Rattle.question.proofs.SystemLaws.{few}
use Rattle.question.proofs.LegLaws.{second_lawful, first_leg_lawful}
use Rattle.finder.specs.Finds.{RanksFilled}
use Rattle.finder.specs.FindsTwo.{Rooms, rooms_of, RoomForTwo, find_two_rows, AnsweredTwo, FindsTwo}
use Rattle.finder.specs.declared.answer.Answer.{Answer}
use Rattle.finder.specs.declared.answer.Answer.TheVariants.{Reach, Cannot}
use Rattle.finder.proofs.AnswerLaws.{reach_plan, none-answer, works_answer}
use Rattle.finder.proofs.Unique.{answers_unique, ranks_unique}
use Rattle.finder.proofs.TwoLaws.{two-clear}

module _ (book : List ℕ) (q : Question) (goal : Goal) (team2 : ℕ) (goal2 : Goal) where
  abbrev Works2 : ℕ → Plan → Type 0
  Works2 n p = WorksForTwo book q goal team2 goal2 n p

  module _ (old new : Rooms) where
    pub two_reach : (h size : ℕ) → FindsTwo book q goal team2 goal2 old (Ok (Reach h size)) new
        → (n : ℕ) × (m : ℕ) × ValidLegs book q goal team2 goal2 n m × AnsweredTwo n book q goal team2 goal2 old (Ok (Reach h size)) new
        × ((p : Plan) × Works2 n p × (height p ≡ h) × ((s : Plan) → Works2 n s → h ≤ height s)
        × (size ≡ length (encode p)) × (new.plan ≡ encode p ++ drop size old.plan))
    two_reach h size (inl u) = let e : Ok (Reach h size) ≡ Err u.why = u.answered in let z : ◌≡◌ {A = ℕ} 0 1 = cc in absurd (omega arith)
    two_reach h size (inr (n, m, v, room, a)) =
        let S = system_of n book q goal in
        let law = second_lawful book q goal team2 goal2 v in
        let p = reach_plan (first_system n book q goal team2 goal2) (start_of q) old.plan new.plan h size a.answers in
        (n, m, v, a, (p.0, then_works law S p.0 (start_of q) p.1, p.2, (λ s w. p.3 s (works_then law S s (start_of q) w)), p.4, p.5))

    pub two_cannot : FindsTwo book q goal team2 goal2 old (Ok Cannot) new
        → (n : ℕ) × (m : ℕ) × ValidLegs book q goal team2 goal2 n m × AnsweredTwo n book q goal team2 goal2 old (Ok Cannot) new
        × ((p : Plan) → Works2 n p → ⊥) × (new.plan ≡ old.plan)
    two_cannot (inl u) = let e : Ok Cannot ≡ Err u.why = u.answered in let z : ◌≡◌ {A = ℕ} 0 1 = cc in absurd (omega arith)
    two_cannot (inr (n, m, v, room, a)) =
        let law = second_lawful book q goal team2 goal2 v in
        (n, m, v, a, (λ p w. a.answers.0 p (works_then law (system_of n book q goal) p (start_of q) w)), a.answers.1)

    module _ {n m : ℕ} (v : ValidLegs book q goal team2 goal2 n m) (room : RoomForTwo n old) where
      -- whatever is answered, the ranks of both legs are filled in
      pub two-answered : (a : Result Answer Refusal) → FindsTwo book q goal team2 goal2 old a new → AnsweredTwo n book q goal team2 goal2 old a new
      two-answered a (inl u) = first-clear u.first (two-clear book q goal team2 goal2 old v room)
      two-answered a (inr (k, o, d, e, g)) =
          subst (λ (j : ℕ). AnsweredTwo j book q goal team2 goal2 old a new) (sound-one d.first.sound v.first.sound).0 g

      pub two_reach_where : 32640 ≤ length old.plan → (a : Result Answer Refusal) (p : Plan) → Works2 n p → FindsTwo book q goal team2 goal2 old a new
          → (h : ℕ) × (size : ℕ) × (a ≡ Ok (Reach h size))
      two_reach_where big a p w f =
          works_answer (first_system n book q goal team2 goal2) (start_of q) old.plan new.plan (first_leg_lawful book q goal team2 goal2 v) (few v.first) big
          a p (works_then (second_lawful book q goal team2 goal2 v) (system_of n book q goal) p (start_of q) w) (two-answered a f).answers

      pub two_cannot_where : (a : Result Answer Refusal) → ((p : Plan) → Works2 n p → ⊥) → FindsTwo book q goal team2 goal2 old a new → a ≡ Ok Cannot
      two_cannot_where a none f =
          none-answer (first_system n book q goal team2 goal2) (start_of q) old.plan new.plan a
          (λ p w. none p (then_works (second_lawful book q goal team2 goal2 v) (system_of n book q goal) p (start_of q) w)) (two-answered a f).answers

    -- a refusal leaves the plan room as it was; it is the first of those before 14 and leaves all three rooms, or it is 14: of a valid question, whose
    -- plan does not fit the room, and the ranks of both legs are filled in
    pub two-refused : (w : Refusal) → FindsTwo book q goal team2 goal2 old (Err w) new
        → (First (find_two_rows book q goal team2 goal2 old) w × (new ≡ old))
        ⊎ ((w ≡ PlanRoom) × (new.plan ≡ old.plan) × ((n : ℕ) × (m : ℕ) × ValidLegs book q goal team2 goal2 n m × RoomForTwo n old
        × RanksFilled n (first_system n book q goal team2 goal2) old.ranks new.ranks
        × RanksFilled n (second_system n book q team2 goal2) old.ranks2 new.ranks2
        × ((p : Plan) × Works2 n p × Written (first_system n book q goal team2 goal2) (start_of q) p × (length old.plan < length (encode p)))))
    two-refused w (inl u) =
        let same-why : u.why ≡ w = let e = u.answered in cc in
        inl (subst (First (find_two_rows book q goal team2 goal2 old)) same-why u.first, u.kept)
    two-refused w (inr (n, m, v, room, a)) =
        let p = a.answers.1 in
        let law = second_lawful book q goal team2 goal2 v in
        let works = then_works law (system_of n book q goal) p.0 (start_of q) (written_works (first_system n book q goal team2 goal2) p.0 (start_of q) p.1) in
        inr (a.answers.0, a.answers.2, (n, m, v, room, a.first_ranks, a.second_ranks, (p.0, works, p.1, p.2)))

    -- and the first of those before 14 is given, whatever else may be said
    pub two-rows-given : (a : Result Answer Refusal) (w : Refusal) → First (find_two_rows book q goal team2 goal2 old) w → FindsTwo book q goal team2 goal2 old a new
        → (a ≡ Err w) × (new ≡ old)
    two-rows-given a w f (inl u) = (u.answered ∙ ap Err (first_unique u.first f), u.kept)
    two-rows-given a w f (inr (n, m, v, room, g)) = first-clear f (two-clear book q goal team2 goal2 old v room)

  -- any two results that the contract allows are equal, all three rooms included
  pub two_unique : (old : Rooms) (a b : Result Answer Refusal) (x y : Rooms) → FindsTwo book q goal team2 goal2 old a x → FindsTwo book q goal team2 goal2 old b y → (a ≡ b) × (x ≡ y)
  two_unique old a b x y (inl u) (inl w) = (u.answered ∙ ap Err (first_unique u.first w.first) ∙ sym w.answered, u.kept ∙ sym w.kept)
  two_unique old a b x y (inl u) (inr (n, m, v, room, g)) = first-clear u.first (two-clear book q goal team2 goal2 old v room)
  two_unique old a b x y (inr (n, m, v, room, g)) (inl u) = first-clear u.first (two-clear book q goal team2 goal2 old v room)
  two_unique old a b x y (inr (n, m, v, room, g)) (inr (k, o, d, e, i)) =
      let h = subst (λ (j : ℕ). AnsweredTwo j book q goal team2 goal2 old b y) (sound-one d.first.sound v.first.sound).0 i in
      let z = answers_unique (first_leg_lawful book q goal team2 goal2 v) (few v.first) (start_of q) old.plan a b x.plan y.plan g.answers h.answers in
      (z.0, same_rooms (ranks_unique g.first_ranks h.first_ranks) (ranks_unique g.second_ranks h.second_ranks) z.1)
    where
      same_rooms : {r s t u p w : List ℕ} → r ≡ s → t ≡ u → p ≡ w → rooms_of r t p ≡ rooms_of s u w
      same_rooms {r} {s} {t} {u} {p} {w} e f g =
          ap (λ (z : List ℕ). rooms_of z t p) e ∙ ap (λ (z : List ℕ). rooms_of s z p) f ∙ ap (λ (z : List ℕ). rooms_of s u z) g
