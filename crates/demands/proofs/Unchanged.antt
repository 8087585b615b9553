-- "Where the team knows the present value, setting that same value is no longer an act. Show that no finder's answer, rank or written plan changes."
-- The demands speak of the question's system, `system_of`, which has no such acts; `ruled_system` is the same with them, as it was before. What is
-- promised by one is promised by the other, for both finders; a plan for the one becomes a plan for the other by leaving such sets out; and 32 exactly.
use mathlib.Core.Path.{◌≡◌, refl, subst}
use mathlib.Core.Logic.{◌↔◌}
use mathlib.Core.List.{List}
use Prim.Native.Nat.{ℕ, ◌≤◌}
use native.Mathlib.Omega.{arith}
use lib.ListN.{length}
use Rattle.std.specs.Prelude.{None, Result, Ok, Err}
use Rattle.refusal.specs.declared.Refusal.{Refusal}
use Rattle.refusal.specs.declared.Refusal.TheVariants.{ChangesNothing}
use Rattle.refusal.specs.Refusals.{numbers}
use Rattle.knowledge.specs.Goal.{Goal, learn_count, learn_table}
use Rattle.plan.specs.Plans.{System, Plan, Permitted, Works, height}
use Rattle.plan.specs.Ranks.{IsRank, Written}
use Rattle.plan.specs.Bytes.{encode}
use Rattle.plan.specs.Secret.{Twins}
use Rattle.plan.specs.Legs.{first_leg}
use Rattle.plan.specs.Without.{without, NoneIdle, leaving_out}
use Rattle.plan.proofs.Legs.{then_works}
use Rattle.plan.proofs.LeavingOut.{leaving_works, leaving_height, leaving_length, leaving_none, idle_permitted, idle_works}
use Rattle.plan.proofs.Written.{written_works}
use Rattle.plan.proofs.Without.{least-same, cannot_same, rank_same, written_same, leg_without}
use Rattle.question.specs.Question.{system_of, ruled_system, start_of, NoMaking}
use Rattle.question.specs.Asks.{ValidQuestion}
use Rattle.question.specs.declared.Question.{Question}
use Rattle.question.specs.Legs.{second_question, second_system, first_system, WorksForTwo, ValidLegs}
use Rattle.question.proofs.SystemLaws.{from_ruled, ruled_lawful}
use Rattle.question.proofs.LegLaws.{second-valid, second_lawful}
use Rattle.question.proofs.SecretLaws.{none_secret_ruled}
use Rattle.finder.specs.Answers.{AnswersFrom}
use Rattle.finder.specs.Finds.{RanksFilled, Finds}
use Rattle.finder.specs.declared.answer.Answer.{Answer}
use Rattle.finder.specs.declared.answer.Answer.TheVariants.{Cannot}
use Rattle.finder.proofs.Theorems.{cannot_none}
use Rattle.finder.proofs.Without.{ranks-without, answers-without}
use Rattle.finder_plain.specs.Finds.{AnswersPlainly}
use Rattle.finder_plain.specs.declared.finding.PlainAnswer.{PlainAnswer}
use Rattle.finder_plain.specs.declared.finding.PlainAnswer.TheVariants.{Reach as PlainReach, Cannot as PlainCannot}
use Rattle.plancheck.specs.Checks.{Checks}
use Rattle.plancheck.proofs.Theorems.{yes_exact}
use Rattle.plancheck.proofs.Denied.{NothingAt, nothing_exact}

module _ (n : ℕ) (book : List ℕ) (q : Question) (goal : Goal) where
  abbrev Ruled : System
  Ruled = ruled_system n book q goal

  abbrev Asked : System
  Asked = system_of n book q goal

  -- ---- "no finder's answer, rank or written plan changes"

  -- the rank of every knowledge number
  pub rank_unchanged : (k r : ℕ) → IsRank Ruled k r ↔ IsRank Asked k r
  rank_unchanged k r = from_ruled n book q goal (λ (S : System). IsRank Ruled k r ↔ IsRank S k r) (rank_same Ruled k r)

  -- the plan written from every knowledge number
  pub written_unchanged : (p : Plan) (k : ℕ) → Written Ruled k p ↔ Written Asked k p
  written_unchanged p k = from_ruled n book q goal (λ (S : System). Written Ruled k p ↔ Written S k p) (written_same Ruled p k)

  -- what the finder leaves in the rank table, and its answer with the plan room
  pub ranks_unchanged : (ranks r : List ℕ) → RanksFilled n Ruled ranks r ↔ RanksFilled n Asked ranks r
  ranks_unchanged ranks r = from_ruled n book q goal (λ (S : System). RanksFilled n Ruled ranks r ↔ RanksFilled n S ranks r) ranks-without

  pub answer_unchanged : (plan : List ℕ) (a : Result Answer Refusal) (x : List ℕ) → AnswersFrom Ruled (start_of q) plan a x ↔ AnswersFrom Asked (start_of q) plan a x
  answer_unchanged plan a x =
      from_ruled n book q goal (λ (S : System). AnswersFrom Ruled (start_of q) plan a x ↔ AnswersFrom S (start_of q) plan a x)
      (answers-without Ruled (start_of q) plan a x)

  -- the second finder's answer
  pub plain_unchanged : (k : ℕ) (a : PlainAnswer) → AnswersPlainly Ruled k a ↔ AnswersPlainly Asked k a
  plain_unchanged k (PlainReach h) = from_ruled n book q goal (λ (S : System). AnswersPlainly Ruled k (PlainReach h) ↔ AnswersPlainly S k (PlainReach h)) (least-same Ruled k h)
  plain_unchanged k PlainCannot = from_ruled n book q goal (λ (S : System). AnswersPlainly Ruled k PlainCannot ↔ AnswersPlainly S k PlainCannot) (cannot_same Ruled k)

  -- of two legs: the first leg's ranks, its plan and the answer, where both teams may do such sets and where neither may. The second leg is a question of
  -- its own, so that its ranks are unchanged by `ranks_unchanged`
  module _ (team2 : ℕ) (goal2 : Goal) {m : ℕ} (v : ValidLegs book q goal team2 goal2 n m) where
    abbrev RuledTwo : System
    RuledTwo = first_leg n Ruled (ruled_system n book (second_question q team2) goal2)

    from_two : (P : System → Type 0) → P (without RuledTwo) → P (first_system n book q goal team2 goal2)
    from_two P h =
        from_ruled n book q goal (λ (S : System). P (first_leg n S (second_system n book q team2 goal2)))
        (from_ruled n book (second_question q team2) goal2 (λ (R : System). P (first_leg n (without Ruled) R))
        (subst P (leg_without Ruled (ruled_lawful (second-valid book q goal team2 goal2 v))) h))

    pub two-rank_unchanged : (k r : ℕ) → IsRank RuledTwo k r ↔ IsRank (first_system n book q goal team2 goal2) k r
    two-rank_unchanged k r = from_two (λ (S : System). IsRank RuledTwo k r ↔ IsRank S k r) (rank_same RuledTwo k r)

    pub two-written_unchanged : (p : Plan) (k : ℕ) → Written RuledTwo k p ↔ Written (first_system n book q goal team2 goal2) k p
    two-written_unchanged p k = from_two (λ (S : System). Written RuledTwo k p ↔ Written S k p) (written_same RuledTwo p k)

    pub two-ranks_unchanged : (ranks r : List ℕ) → RanksFilled n RuledTwo ranks r ↔ RanksFilled n (first_system n book q goal team2 goal2) ranks r
    two-ranks_unchanged ranks r = from_two (λ (S : System). RanksFilled n RuledTwo ranks r ↔ RanksFilled n S ranks r) ranks-without

    pub two-answer_unchanged : (plan : List ℕ) (a : Result Answer Refusal) (x : List ℕ)
        → AnswersFrom RuledTwo (start_of q) plan a x ↔ AnswersFrom (first_system n book q goal team2 goal2) (start_of q) plan a x
    two-answer_unchanged plan a x =
        from_two (λ (S : System). AnswersFrom RuledTwo (start_of q) plan a x ↔ AnswersFrom S (start_of q) plan a x) (answers-without RuledTwo (start_of q) plan a x)

    -- and a first leg that worked works with such sets left out, no higher
    pub two-left_out : (p : Plan) → Works RuledTwo (start_of q) p
        → WorksForTwo book q goal team2 goal2 n (leaving_out (start_of q) p) × (height (leaving_out (start_of q) p) ≤ height p)
    two-left_out p w = (
      then_works (second_lawful book q goal team2 goal2 v) Asked (leaving_out (start_of q) p) (start_of q)
          (from_two (λ (S : System). Works S (start_of q) (leaving_out (start_of q) p)) (leaving_works RuledTwo p (start_of q) w)),
      leaving_height p (start_of q),
    )

  -- ---- "Demands 2 and 3 count plans without such sets"

  module _ (p : Plan) where
    -- the plans that work (demand 2), and those that are permitted (demand 3)
    pub works_idle : Works Asked (start_of q) p ↔ (Works Ruled (start_of q) p × NoneIdle (start_of q) p)
    works_idle = from_ruled n book q goal (λ (S : System). Works S (start_of q) p ↔ (Works Ruled (start_of q) p × NoneIdle (start_of q) p)) (idle_works Ruled p (start_of q))

    pub permitted_idle : Permitted Asked (start_of q) p ↔ (Permitted Ruled (start_of q) p × NoneIdle (start_of q) p)
    permitted_idle = from_ruled n book q goal (λ (S : System). Permitted S (start_of q) p ↔ (Permitted Ruled (start_of q) p × NoneIdle (start_of q) p)) (idle_permitted Ruled p (start_of q))

    -- no plan that is written has such a set
    pub written-none_idle : Written Asked (start_of q) p → NoneIdle (start_of q) p
    written-none_idle w = (works_idle.0 (written_works Asked p (start_of q) w)).1

    -- every plan that works with such sets works with them left out, and is no higher; and one that has none stays as it is
    pub left_out : Works Ruled (start_of q) p → Works Asked (start_of q) (leaving_out (start_of q) p) × (height (leaving_out (start_of q) p) ≤ height p)
    left_out w =
        (from_ruled n book q goal (λ (S : System). Works S (start_of q) (leaving_out (start_of q) p)) (leaving_works Ruled p (start_of q) w), leaving_height p (start_of q))

    pub nothing_left_out : Permitted Asked (start_of q) p → leaving_out (start_of q) p ≡ p
    nothing_left_out w = leaving_none Ruled p (start_of q) ((idle_permitted Ruled p (start_of q)).1 (permitted_idle.0 w))

-- and the plan check accepts its bytes: they are no more
pub left_out_accepted : {book : List ℕ} {q : Question} {goal : Goal} {n m : ℕ} → ValidQuestion book q goal n m
    → (p : Plan) → Works (ruled_system n book q goal) (start_of q) p → length (encode p) ≤ 32640
    → (a : Result (Unit {0}) Refusal) → Checks book q goal (encode (leaving_out (start_of q) p)) a → a ≡ Ok tt
left_out_accepted {book} {q} {goal} {n} v p w short a said =
    (yes_exact v (encode (leaving_out (start_of q) p)) a said).1
    (omega (arith, short, leaving_length p (start_of q)), (leaving_out (start_of q) p, (left_out n book q goal p w).0, refl))

-- a team that does such sets all the same learns nothing by them: "cannot" means for those plans what it means for the others (demand 3)
pub idle_secret : (book : List ℕ) (q : Question) (goal : Goal) (ranks plan r x : List ℕ) → Finds book q goal ranks plan (Ok Cannot) r x
    → (n : ℕ) × (m : ℕ) × ValidQuestion book q goal n m
    × (NoMaking n goal → learn_count goal.learn ≡ 1 → (p : Plan) → Permitted (ruled_system n book q goal) (start_of q) p → Twins n (learn_table goal.learn 0) (start_of q) p)
idle_secret book q goal ranks plan r x f =
    let (n, m, v, none, kept) = cannot_none book q goal ranks plan r x f in
    (n, m, v, λ one single p w. none_secret_ruled book q goal n one single v none p w)

-- ---- "32 with the index, after 18 at the same byte": a plan of a valid question gets it exactly where a set is due that nothing else denies, to the
-- value that the team knows is there (question/proofs/NothingLaws `NothingHere`), and all bytes before it read without a fault
pub changes_nothing_case : {book : List ℕ} {q : Question} {goal : Goal} {n m : ℕ} → ValidQuestion book q goal n m → (plan : List ℕ) → length plan ≤ 32640
    → (r : Result (Unit {0}) Refusal) → Checks book q goal plan r → (i : ℕ) → (r ≡ Err (ChangesNothing i)) ↔ NothingAt n book q goal plan i
changes_nothing_case valid plan short r said i = nothing_exact valid plan r said short i

pub changes_nothing_numbers : (i : ℕ) → numbers (ChangesNothing i) ≡ record { number = 32; place = i; second = None }
changes_nothing_numbers i = refl
