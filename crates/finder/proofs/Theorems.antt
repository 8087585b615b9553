-- What is promised of the finder, about its contract: demand 2, "reach" exactly when a working plan exists, with the least height and such a plan;
-- and demand 3, what "cannot" means for a secret.
use mathlib.Core.Path.{◌≡◌, subst}
use mathlib.Core.Logic.{inl, inr}
use mathlib.Core.List.{List, ◌++◌}
use Rattle.std.proofs.Common.{Result, Ok, Err}
use Prim.Native.Nat.{ℕ, suc, ◌-◌, ◌^◌, ◌≤◌, ◌<◌}
use native.Mathlib.Omega.{arith}
use lib.ListN.{length, get_or, drop}
use Rattle.refusal.proofs.OrderLaws.{first-clear}
use Rattle.book_sound.proofs.Theorems.{sound-one}
use Rattle.plan.specs.Plans.{Plan, Permitted, Works, height}
use Rattle.plan.specs.Ranks.{Cannot as CannotFrom}
use Rattle.plan.specs.Bytes.{encode}
use Rattle.plan.specs.Secret.{Twins}
use Rattle.plan.proofs.Ranks.{rank_most}
use Rattle.knowledge.specs.Goal.{Goal, learn_count, learn_table}
use Rattle.question.specs.Question.{system_of, start_of, NoMaking}
use Rattle.question.specs.Asks.{ValidQuestion}
use Rattle.finder.specs.Finds.{RanksFilled, Finds}
use Rattle.question.specs.declared.Question.{Question}
use Rattle.refusal.specs.declared.Refusal.{Refusal}
use Rattle.finder.specs.declared.answer.Answer.{Answer}
use Rattle.finder.specs.declared.answer.Answer.TheVariants.{Reach, Cannot}
use Rattle.question.proofs.SystemLaws.{lawful, few}
use Rattle.question.proofs.SecretLaws.{none_secret}
use Rattle.finder.proofs.FindLaws.{find_clear}
use Rattle.finder.proofs.AnswerLaws.{reach_plan, none-answer, works_answer}

-- ---- demand 2: "reach" exactly when a working plan exists, the least height, and such a plan

module _ (book : List ℕ) (q : Question) (goal : Goal) (ranks plan r x : List ℕ) where
  -- "reach": the question is valid over the book's n settings, the plan in the room works, has the height named and the length named, and none that works
  -- is lower
  pub reach_works : (h size : ℕ) → Finds book q goal ranks plan (Ok (Reach h size)) r x
      → (n : ℕ) × (m : ℕ) × ValidQuestion book q goal n m
      × ((p : Plan) × Works (system_of n book q goal) (start_of q) p × (height p ≡ h)
      × ((s : Plan) → Works (system_of n book q goal) (start_of q) s → h ≤ height s)
      × (size ≡ length (encode p)) × (x ≡ encode p ++ drop size plan))
  reach_works h size (inl u) = let e : Ok (Reach h size) ≡ Err u.why = u.answered in let z : ◌≡◌ {A = ℕ} 0 1 = cc in absurd (omega arith)
  reach_works h size (inr (n, m, v, l, f, a)) = (n, m, v, reach_plan (system_of n book q goal) (start_of q) plan x h size a)

  -- "cannot": the question is valid over the book's n settings, no plan works, and the plan room is as it was
  pub cannot_none : Finds book q goal ranks plan (Ok Cannot) r x
      → (n : ℕ) × (m : ℕ) × ValidQuestion book q goal n m × ((p : Plan) → Works (system_of n book q goal) (start_of q) p → ⊥) × (x ≡ plan)
  cannot_none (inl u) = let e : Ok Cannot ≡ Err u.why = u.answered in let z : ◌≡◌ {A = ℕ} 0 1 = cc in absurd (omega arith)
  cannot_none (inr (n, m, v, l, f, a)) = (n, m, v, a.0, a.1)

  -- and a valid question whose plan works is answered "reach", where the rooms are long enough: 32,640 bytes always suffice for the plan
  pub works_reach : {n m : ℕ} (a : Result Answer Refusal) → ValidQuestion book q goal n m → 7 ^ n ≤ length ranks → 32640 ≤ length plan
      → (p : Plan) → Works (system_of n book q goal) (start_of q) p → Finds book q goal ranks plan a r x → (h : ℕ) × (size : ℕ) × (a ≡ Ok (Reach h size))
  works_reach a v l big p w (inl u) =
      first-clear u.first (find_clear v ranks l)
  works_reach {n} a v l big p w (inr (k, o, d, e, f, g)) =
      let same : n ≡ k = (sound-one v.sound d.sound).0 in
      works_answer (system_of k book q goal) (start_of q) plan x (lawful d) (few d) big a p
      (subst (λ (j : ℕ). Works (system_of j book q goal) (start_of q) p) same w) g

  -- and one for which none works is answered "cannot", whatever the plan room
  pub none_cannot : {n m : ℕ} (a : Result Answer Refusal) → ValidQuestion book q goal n m → 7 ^ n ≤ length ranks
      → ((p : Plan) → Works (system_of n book q goal) (start_of q) p → ⊥) → Finds book q goal ranks plan a r x → a ≡ Ok Cannot
  none_cannot a v l none (inl u) =
      first-clear u.first (find_clear v ranks l)
  none_cannot {n} a v l none (inr (k, o, d, e, f, g)) =
      let same : n ≡ k = (sound-one v.sound d.sound).0 in
      none-answer (system_of k book q goal) (start_of q) plan x a (subst (λ (j : ℕ). CannotFrom (system_of j book q goal) (start_of q)) same none) g

  -- "A rank other than 255 is at most 2^(n+1) − 2.", of the bytes that are left in the rank table
  pub filled-most : {n m : ℕ} (a : Result Answer Refusal) → ValidQuestion book q goal n m → 7 ^ n ≤ length ranks → Finds book q goal ranks plan a r x
      → (k : ℕ) → k < 7 ^ n → (get_or r k 0 ≡ 255 → ⊥) → get_or r k 0 ≤ 2 ^ suc n - 2
  filled-most a v l (inl u) k h ne =
      first-clear u.first (find_clear v ranks l)
  filled-most {n} a v l (inr (j, o, d, e, f, g)) k h ne =
      let same : j ≡ n = (sound-one d.sound v.sound).0 in
      let filled = subst (λ (i : ℕ). RanksFilled i (system_of i book q goal) ranks r) same f in
      rank_most (lawful v) k (get_or r k 0) (filled.ranks k h) ne

-- ---- demand 3: what "cannot" means for a secret

module _ (book : List ℕ) (q : Question) (goal : Goal) (ranks plan r x : List ℕ) where
  -- for a question with no making and one learn formula that is answered "cannot": for every permitted plan there are two starting valuations below 2^n,
  -- both agreeing with what the team knew, that give the formula different values, and on which the plan does the same acts and sees the same readings
  pub cannot_secret : Finds book q goal ranks plan (Ok Cannot) r x
      → (n : ℕ) × (m : ℕ) × ValidQuestion book q goal n m
      × (NoMaking n goal → learn_count goal.learn ≡ 1 → (p : Plan) → Permitted (system_of n book q goal) (start_of q) p → Twins n (learn_table goal.learn 0) (start_of q) p)
  cannot_secret (inl u) = let e : Ok Cannot ≡ Err u.why = u.answered in let z : ◌≡◌ {A = ℕ} 0 1 = cc in absurd (omega arith)
  cannot_secret (inr (n, m, v, l, f, a)) =
      (n, m, v, λ one single p w. none_secret book q goal n one single v a.0 p w)
