-- The second finder, which is lent no table (crate finder_plain), against the first: "proved to give the same reach or cannot and the same height as
-- the table finder on every valid question, for all n by one argument." The argument: both give the least height of a working plan, and there is one
-- least height. What it promises by itself, demand 3 of its "cannot" too, is in Demands.
use mathlib.Core.Path.{◌≡◌, refl, ap, ◌∙◌, subst}
use mathlib.Core.Logic.{◌⊎◌, inl, inr}
use mathlib.Core.List.{List}
use Prim.Native.Nat.{ℕ, ◌^◌, ◌≤◌}
use native.Mathlib.Omega.{arith}
use lib.ListN.{length}
use Rattle.std.specs.Prelude.{Result, Ok, Err}
use Rattle.refusal.specs.declared.Refusal.{Refusal}
use Rattle.refusal.proofs.OrderLaws.{first_unique}
use Rattle.knowledge.specs.Goal.{Goal}
use Rattle.question.specs.Asks.{ValidQuestion}
use Rattle.question.specs.declared.Question.{Question}
use Rattle.finder.specs.Finds.{Finds}
use Rattle.finder.specs.declared.answer.Answer.{Answer}
use Rattle.finder.specs.declared.answer.Answer.TheVariants.{Reach, Cannot}
use Rattle.finder.proofs.FindLaws.{early}
use Rattle.finder.proofs.Theorems.{works_reach, none_cannot}
use Rattle.finder_plain.specs.Finds.{FindsPlain}
use Rattle.finder_plain.specs.declared.finding.PlainAnswer.{PlainAnswer}
use Rattle.finder_plain.specs.declared.finding.PlainAnswer.TheVariants.{Reach as PlainReach, Cannot as PlainCannot}
use Rattle.finder_plain.proofs.Theorems as Plain

module _ (book : List ℕ) (q : Question) (goal : Goal) (ranks plan : List ℕ) (r x : List ℕ) (a : Result PlainAnswer Refusal) (plain : FindsPlain book q goal a) where
  -- ---- what the first finder says, the second says too

  pub same_reach : (h size : ℕ) → Finds book q goal ranks plan (Ok (Reach h size)) r x → a ≡ Ok (PlainReach h)
  same_reach h size (inl u) = let e : (Ok (Reach h size)) ≡ (Err u.why) = u.answered in let z : ◌≡◌ {A = ℕ} 0 1 = cc in absurd (omega arith)
  same_reach h size (inr (n, m, v, l, f, (least, more))) = Plain.least_reach book q goal v a h least plain

  pub same_cannot : Finds book q goal ranks plan (Ok Cannot) r x → a ≡ Ok PlainCannot
  same_cannot (inl u) = let e : (Ok Cannot) ≡ (Err u.why) = u.answered in let z : ◌≡◌ {A = ℕ} 0 1 = cc in absurd (omega arith)
  same_cannot (inr (n, m, v, l, f, (none, kept))) = Plain.none_cannot book q goal v a none plain

  -- the same reach or cannot, and the same height, in any rooms that `find` does not refuse
  pub agree : (b : Result Answer Refusal) → Finds book q goal ranks plan b r x → ((w : Refusal) → b ≡ Err w → ⊥)
      → ((b ≡ Ok Cannot) × (a ≡ Ok PlainCannot)) ⊎ ((h : ℕ) × (size : ℕ) × (b ≡ Ok (Reach h size)) × (a ≡ Ok (PlainReach h)))
  agree (Ok (Reach h size)) f taken = inr (h, size, refl, same_reach h size f)
  agree (Ok Cannot) f taken = inl (refl, same_cannot f)
  agree (Err w) f taken = absurd (taken w refl)

module _ (book : List ℕ) (q : Question) (goal : Goal) (ranks plan : List ℕ) (r x : List ℕ) (b : Result Answer Refusal) (found : Finds book q goal ranks plan b r x) where
  -- ---- and the other way round, in rooms of these sizes: 7^n bytes for the ranks, and 32,640 for the plan, which always suffice

  module _ {n m : ℕ} (v : ValidQuestion book q goal n m) (room : 7 ^ n ≤ length ranks) where
    pub plain_reach_same : 32640 ≤ length plan → (h : ℕ) → FindsPlain book q goal (Ok (PlainReach h)) → (size : ℕ) × (b ≡ Ok (Reach h size))
    plain_reach_same big h f =
        let l = Plain.own_reach book q goal v f in
        let w = works_reach book q goal ranks plan r x b v room big l.here.0 l.here.1 found in
        let told = subst (λ (c : Result Answer Refusal). Finds book q goal ranks plan c r x) w.2 found in
        let e : (Ok (PlainReach h)) ≡ (Ok (PlainReach w.0)) = same_reach book q goal ranks plan r x (Ok (PlainReach h)) f w.0 w.1 told in
        let d : w.0 ≡ h = cc in
        (w.1, w.2 ∙ ap (λ (j : ℕ). (Ok (Reach j w.1))) d)

    pub plain_cannot_same : FindsPlain book q goal (Ok PlainCannot) → b ≡ Ok Cannot
    plain_cannot_same f = none_cannot book q goal ranks plan r x b v room (Plain.own_cannot book q goal v f) found

  -- what the second refuses, the first refuses by the same refusal, whatever its rooms
  pub plain_refused-same : (w : Refusal) → FindsPlain book q goal (Err w) → b ≡ Err w
  plain_refused-same w f = elim found [
    | inl u ↦ u.answered ∙ ap Err (first_unique u.first (early book q goal ranks f))
    | inr (n, m, v, l, g, h) ↦ absurd (Plain.valid-answered book q goal v w f)
  ]
