-- The finder and the plan check agree: what the one writes the other accepts, and what the one says of all plans holds of all that the other accepts.
use mathlib.Core.Path.{◌≡◌, refl, sym, ap, ◌∙◌}
use mathlib.Core.Logic.{inl, inr}
use mathlib.Core.List.{List}
use Prim.Native.Nat.{ℕ, ◌≤◌}
use native.Mathlib.Omega.{arith}
use lib.ListN.{take, drop}
use lib.Seq.{take_at}
use Rattle.std.specs.Prelude.{Ok}
use Rattle.plan.specs.Plans.{Plan, height}
use Rattle.plan.specs.Bytes.{encode}
use Rattle.knowledge.specs.Goal.{Goal}
use Rattle.question.specs.declared.Question.{Question}
use Rattle.finder.specs.Finds.{Finds}
use Rattle.finder.specs.declared.answer.Answer.TheVariants.{Reach, Cannot}
use Rattle.plancheck.specs.Checks.{Checks}
use Rattle.plancheck.proofs.Theorems.{accepted-height, written-accepted}

module _ (book : List ℕ) (q : Question) (goal : Goal) (ranks room : List ℕ) (ranks' room' : List ℕ) where
  -- what `find` writes, `check` accepts
  pub found-accepted : (h size : ℕ) → Finds book q goal ranks room (Ok (Reach h size)) ranks' room' → Checks book q goal (take size room') (Ok tt)
  found-accepted h size (inl u) = absurd (let e = u.answered in let z : ◌≡◌ {A = ℕ} 0 1 = cc in omega arith)
  found-accepted h size (inr (n, m, valid, fits, filled, (least, (p, written, long, short, bytes)))) =
      let same : take size room' ≡ encode p = ap (take size) bytes ∙ take_at (encode p) (drop size room) size (sym long) in
      rw same (written-accepted valid p written)

  -- no accepted plan is lower than the height that `find` names
  pub found-least : (h size : ℕ) → Finds book q goal ranks room (Ok (Reach h size)) ranks' room' → (plan : List ℕ) → Checks book q goal plan (Ok tt)
      → (p : Plan) × (plan ≡ encode p) × (h ≤ height p)
  found-least h size (inl u) plan said = absurd (let e = u.answered in let z : ◌≡◌ {A = ℕ} 0 1 = cc in omega arith)
  found-least h size (inr (n, m, valid, fits, filled, (least, more))) plan said =
      let w = accepted-height valid plan said h (inl least) in (w.0, w.2, w.3)

  -- where `find` says "cannot", no plan is accepted
  pub cannot_accepted : Finds book q goal ranks room (Ok Cannot) ranks' room' → (plan : List ℕ) → Checks book q goal plan (Ok tt) → ⊥
  cannot_accepted (inl u) plan said = let e = u.answered in let z : ◌≡◌ {A = ℕ} 0 1 = cc in omega arith
  cannot_accepted (inr (n, m, valid, fits, filled, (none, kept))) plan said =
      let w = accepted-height valid plan said 255 (inr (refl, none)) in none w.0 w.1
