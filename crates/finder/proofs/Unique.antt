-- The answer to a valid question is settled: any two that `AnswersFrom` allows are equal, the plan room included. And what `find` gives is settled:
-- any two results that its contract allows are equal, both rooms included; and what a refusal leaves.
use mathlib.Core.Path.{◌≡◌, refl, sym, ap, ap₂, ◌∙◌, subst}
use mathlib.Core.Logic.{◌⊎◌, inl, inr}
use mathlib.Core.List.{List, ◌++◌}
use Rattle.std.proofs.Common.{Result, Ok, Err}
use Prim.Native.Nat.{ℕ, ◌≤◌, ◌<◌, ◌^◌}
use native.Mathlib.Omega.{arith}
use lib.ListN.{length, drop}
use lib.Seq.{ext_get_or}
use Rattle.ground.proofs.Bools.{lt_or_ge}
use Rattle.ground.proofs.Search.{least_unique}
use Rattle.refusal.specs.declared.Refusal.{Refusal}
use Rattle.refusal.specs.declared.Refusal.TheVariants.{PlanRoom}
use Rattle.refusal.specs.Order.{First}
use Rattle.refusal.proofs.OrderLaws.{first_unique, first-clear}
use Rattle.book_sound.proofs.Theorems.{sound-one}
use Rattle.knowledge.specs.Goal.{Goal}
use Rattle.plan.specs.Plans.{System, Lawful, Plan}
use Rattle.plan.specs.Ranks.{Written}
use Rattle.plan.specs.Bytes.{encode}
use Rattle.plan.proofs.Ranks.{rank_unique}
use Rattle.plan.proofs.Written.{written_works, written_unique}
use Rattle.question.specs.Question.{system_of, start_of}
use Rattle.question.specs.Asks.{ValidQuestion}
use Rattle.question.specs.declared.Question.{Question}
use Rattle.question.proofs.SystemLaws.{lawful, few}
use Rattle.finder.specs.Answers.{AnswersFrom}
use Rattle.finder.specs.Finds.{RanksFilled, Finds, find_rows}
use Rattle.finder.specs.declared.answer.Answer.{Answer}
use Rattle.finder.specs.declared.answer.Answer.TheVariants.{Reach, Cannot}
use Rattle.finder.proofs.FindLaws.{find_clear}

module _ {n : ℕ} {S : System} (law : Lawful n S) (few : n ≤ 7) (k : ℕ) (old : List ℕ) where
  same : (p s : Plan) → Written S k p → Written S k s → length (encode p) ≡ length (encode s)
  same p s a b = ap (λ (x : Plan). length (encode x)) (written_unique law few p s k a b)

  pub answers_unique : (a b : Result Answer Refusal) (x y : List ℕ) → AnswersFrom S k old a x → AnswersFrom S k old b y → (a ≡ b) × (x ≡ y)
  answers_unique (Ok (Reach h r)) (Ok (Reach j s)) x y a b =
      let e = least_unique a.0 b.0 in
      let p = a.1 in let q = b.1 in
      let w = written_unique law few p.0 q.0 k p.1 q.1 in
      let z : r ≡ s = p.2 ∙ ap (λ (t : Plan). length (encode t)) w ∙ sym q.2 in
      (ap₂ (λ (i j : ℕ). Ok (Reach i j)) e z, p.4 ∙ ap₂ (λ (t : Plan) (i : ℕ). encode t ++ drop i old) w z ∙ sym q.4)
  answers_unique (Ok (Reach h r)) (Ok Cannot) x y a b = absurd (b.0 a.1.0 (written_works S a.1.0 k a.1.1))
  answers_unique (Ok (Reach h r)) (Err w) x y a b =
      absurd (omega (arith, a.1.2, a.1.3, b.1.2, same a.1.0 b.1.0 a.1.1 b.1.1))
  answers_unique (Ok Cannot) (Ok (Reach h r)) x y a b = absurd (a.0 b.1.0 (written_works S b.1.0 k b.1.1))
  answers_unique (Ok Cannot) (Ok Cannot) x y a b = (refl, a.1 ∙ sym b.1)
  answers_unique (Ok Cannot) (Err w) x y a b = absurd (a.0 b.1.0 (written_works S b.1.0 k b.1.1))
  answers_unique (Err w) (Ok (Reach h r)) x y a b =
      absurd (omega (arith, b.1.2, b.1.3, a.1.2, same b.1.0 a.1.0 b.1.1 a.1.1))
  answers_unique (Err w) (Ok Cannot) x y a b = absurd (b.0 a.1.0 (written_works S a.1.0 k a.1.1))
  answers_unique (Err w) (Err v) x y a b = (ap Err (a.0 ∙ sym b.0), a.2 ∙ sym b.2)

pub ranks_unique : {n : ℕ} {S : System} {old new other : List ℕ} → RanksFilled n S old new → RanksFilled n S old other → new ≡ other
ranks_unique {n} {S} {old} {new} {other} a b =
    ext_get_or 0 new other (a.size ∙ sym b.size)
    (λ j h. elim (lt_or_ge j (7 ^ n)) [ inl l ↦ rank_unique S j (a.ranks j l) (b.ranks j l) | inr l ↦ a.later j l ∙ sym (b.later j l) ])

-- ---- any two results that the contract allows are equal, the rank table and the plan room included

module _ (book : List ℕ) (q : Question) (goal : Goal) (ranks plan : List ℕ) where
  pub find_unique : (a b : Result Answer Refusal) (r s x y : List ℕ) → Finds book q goal ranks plan a r x → Finds book q goal ranks plan b s y → (a ≡ b) × (r ≡ s) × (x ≡ y)
  find_unique a b r s x y (inl u) (inl w) =
      (u.answered ∙ ap Err (first_unique u.first w.first) ∙ sym w.answered, u.ranks_kept ∙ sym w.ranks_kept, u.plan_kept ∙ sym w.plan_kept)
  find_unique a b r s x y (inl u) (inr (n, m, v, l, f, g)) = first-clear u.first (find_clear v ranks l)
  find_unique a b r s x y (inr (n, m, v, l, f, g)) (inl u) = first-clear u.first (find_clear v ranks l)
  find_unique a b r s x y (inr (n, m, v, l, f, g)) (inr (k, o, w, d, h, i)) =
      let e : k ≡ n = (sound-one w.sound v.sound).0 in
      let filled = subst (λ (j : ℕ). RanksFilled j (system_of j book q goal) ranks s) e h in
      let answered = subst (λ (j : ℕ). AnswersFrom (system_of j book q goal) (start_of q) plan b y) e i in
      let z = answers_unique (lawful v) (few v) (start_of q) plan a b x y g answered in
      (z.0, ranks_unique f filled, z.1)

  -- a refusal leaves the plan room as it was; it is the first of 6 to 13 and leaves the rank table too, or it is 14: of a valid question, whose plan
  -- does not fit the room, and the rank table is filled
  pub find_refused : (w : Refusal) (r x : List ℕ) → Finds book q goal ranks plan (Err w) r x
      → (x ≡ plan) × ((First (find_rows book q goal ranks) w × (r ≡ ranks))
      ⊎ ((w ≡ PlanRoom) × ((n : ℕ) × (m : ℕ) × ValidQuestion book q goal n m × (7 ^ n ≤ length ranks)
      × RanksFilled n (system_of n book q goal) ranks r
      × ((p : Plan) × Written (system_of n book q goal) (start_of q) p × (length plan < length (encode p))))))
  find_refused w r x (inl u) =
      let same-why : u.why ≡ w = let e = u.answered in cc in
      (u.plan_kept, inl (subst (First (find_rows book q goal ranks)) same-why u.first, u.ranks_kept))
  find_refused w r x (inr (n, m, v, l, f, a)) = (a.2, inr (a.0, (n, m, v, l, f, a.1)))

  -- whatever the answer to a valid question with room for the ranks, they are filled in
  pub find_ranks : {n m : ℕ} (a : Result Answer Refusal) (r x : List ℕ) → ValidQuestion book q goal n m → 7 ^ n ≤ length ranks → Finds book q goal ranks plan a r x
      → RanksFilled n (system_of n book q goal) ranks r
  find_ranks a r x v l (inl u) = first-clear u.first (find_clear v ranks l)
  find_ranks a r x v l (inr (k, o, w, d, f, g)) = subst (λ (j : ℕ). RanksFilled j (system_of j book q goal) ranks r) (sound-one w.sound v.sound).0 f
