-- What is promised of the plain finder, about its contract: "reach" exactly when a working plan exists, with the least height, and "cannot" exactly when
-- none does, on every valid question; and a question that is not valid is refused as `ask` refuses it.
use mathlib.Core.Path.{◌≡◌, refl, subst}
use mathlib.Core.Logic.{inl, ◌↔◌}
use mathlib.Core.List.{List}
use Rattle.std.proofs.Common.{Result, Ok, Err}
use Prim.Native.Nat.{ℕ, suc, ◌-◌, ◌^◌, ◌≤◌}
use native.Mathlib.Omega.{arith}
use Rattle.ground.specs.Search.{Least}
use Rattle.ground.proofs.Search.{least_unique}
use Rattle.refusal.specs.declared.Refusal.{Refusal}
use Rattle.refusal.proofs.OrderLaws.{first-clear}
use Rattle.book_sound.proofs.Theorems.{sound-one}
use Rattle.knowledge.specs.Goal.{Goal, learn_count, learn_table}
use Rattle.plan.specs.Plans.{Plan, Permitted, Works, height}
use Rattle.plan.specs.Ranks.{Reach as ReachIn, Cannot as CannotFrom}
use Rattle.plan.specs.Secret.{Twins}
use Rattle.plan.proofs.Ranks.{rank-least, rank_most, rank-small}
use Rattle.question.specs.Question.{system_of, start_of, NoMaking}
use Rattle.question.specs.Asks.{ValidQuestion, Asks}
use Rattle.question.specs.declared.Question.{Question}
use Rattle.question.proofs.RowLaws.{question_clear}
use Rattle.question.proofs.SystemLaws.{lawful, few}
use Rattle.question.proofs.SecretLaws.{none_secret}
use Rattle.finder_plain.specs.Finds.{FindsPlain}
use Rattle.finder_plain.specs.declared.finding.PlainAnswer.{PlainAnswer}
use Rattle.finder_plain.specs.declared.finding.PlainAnswer.TheVariants.{Reach, Cannot}

module _ (book : List ℕ) (q : Question) (goal : Goal) where
  -- "reach": the question is valid over the book's n settings, a plan of the height named works, and none that works is lower
  pub plain_reach : (h : ℕ) → FindsPlain book q goal (Ok (Reach h))
      → (n : ℕ) × (m : ℕ) × ValidQuestion book q goal n m
      × ((p : Plan) × Works (system_of n book q goal) (start_of q) p × (height p ≡ h)
      × ((s : Plan) → Works (system_of n book q goal) (start_of q) s → h ≤ height s))
  plain_reach h (n, m, v, l) =
      (n, m, v, (l.here.0, l.here.1, l.here.2, λ s w. rank-least (system_of n book q goal) (start_of q) (inl l) s w))

  -- "cannot": the question is valid over the book's n settings, and no plan works
  pub plain_cannot : FindsPlain book q goal (Ok Cannot)
      → (n : ℕ) × (m : ℕ) × ValidQuestion book q goal n m × ((p : Plan) → Works (system_of n book q goal) (start_of q) p → ⊥)
  plain_cannot (n, m, v, none) = (n, m, v, none)

  -- and what that means for a secret: demand 3
  pub cannot_secret : FindsPlain book q goal (Ok Cannot)
      → (n : ℕ) × (m : ℕ) × ValidQuestion book q goal n m
      × (NoMaking n goal → learn_count goal.learn ≡ 1 → (p : Plan) → Permitted (system_of n book q goal) (start_of q) p → Twins n (learn_table goal.learn 0) (start_of q) p)
  cannot_secret (n, m, v, none) = (n, m, v, λ one single p w. none_secret book q goal n one single v none p w)

  -- "Its refusals are those through 12": it refuses as `ask` does
  pub plain_refused : (r : Refusal) → FindsPlain book q goal (Err r) ↔ Asks book q goal (Err r)
  plain_refused r = (λ f. f, λ f. f)

  module _ {n m : ℕ} (v : ValidQuestion book q goal n m) where
    -- what the answer says of the systems over the book's own number of settings
    pub own_reach : {h : ℕ} → FindsPlain book q goal (Ok (Reach h)) → Least (ReachIn (system_of n book q goal) (start_of q)) h
    own_reach {h} (k, o, w, l) =
        subst (λ (j : ℕ). Least (ReachIn (system_of j book q goal) (start_of q)) h) (sound-one w.sound v.sound).0 l

    pub own_cannot : FindsPlain book q goal (Ok Cannot) → CannotFrom (system_of n book q goal) (start_of q)
    own_cannot (k, o, w, none) = subst (λ (j : ℕ). CannotFrom (system_of j book q goal) (start_of q)) (sound-one w.sound v.sound).0 none

    -- a valid question is not refused
    pub valid-answered : (r : Refusal) → FindsPlain book q goal (Err r) → ⊥
    valid-answered r f = first-clear f (question_clear v)

    -- it is answered "reach" with the least height of a plan that works
    pub least_reach : (a : Result PlainAnswer Refusal) (h : ℕ) → Least (ReachIn (system_of n book q goal) (start_of q)) h → FindsPlain book q goal a → a ≡ Ok (Reach h)
    least_reach (Ok (Reach j)) h l f = let e : j ≡ h = least_unique (own_reach f) l in rw e refl
    least_reach (Ok Cannot) h l f = absurd (own_cannot f l.here.0 l.here.1)
    least_reach (Err r) h l f = absurd (valid-answered r f)

    -- and where a plan works, with some height
    pub works_reach : (a : Result PlainAnswer Refusal) (p : Plan) → Works (system_of n book q goal) (start_of q) p → FindsPlain book q goal a → (h : ℕ) × (a ≡ Ok (Reach h))
    works_reach (Ok (Reach j)) p w f = (j, refl)
    works_reach (Ok Cannot) p w f = absurd (own_cannot f p w)
    works_reach (Err r) p w f = absurd (valid-answered r f)

    -- and "cannot" where none works
    pub none_cannot : (a : Result PlainAnswer Refusal) → CannotFrom (system_of n book q goal) (start_of q) → FindsPlain book q goal a → a ≡ Ok Cannot
    none_cannot (Ok (Reach j)) none f = let l = own_reach f in absurd (none l.here.0 l.here.1)
    none_cannot (Ok Cannot) none f = refl
    none_cannot (Err r) none f = absurd (valid-answered r f)

    -- "tries heights 0, 1, 2 and so on up to 2^(n+1) − 2"
    pub height-most : (h : ℕ) → FindsPlain book q goal (Ok (Reach h)) → h ≤ 2 ^ suc n - 2
    height-most h f =
        let l = own_reach f in
        rank_most (lawful v) (start_of q) h (inl l) (λ e. absurd (omega (arith, rank-small (lawful v) (start_of q) h (few v) l)))
