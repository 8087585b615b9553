-- What the plain `find` gives is settled: any two answers that its contract allows are equal. And how large what it gives can be.
use mathlib.Core.Path.{◌≡◌, sym, ap}
use mathlib.Core.List.{List}
use Prim.Native.Nat.{ℕ, ◌≤◌, ◌<◌}
use Rattle.std.proofs.Common.{Result, Ok, Err}
use native.Mathlib.Omega.{arith}
use Rattle.refusal.specs.declared.Refusal.{Refusal}
use Rattle.refusal.specs.Refusals.{place}
use Rattle.refusal.proofs.OrderLaws.{first_unique}
use Rattle.knowledge.specs.Goal.{Goal}
use Rattle.plan.proofs.Ranks.{rank-small}
use Rattle.question.specs.Question.{start_of}
use Rattle.question.specs.declared.Question.{Question}
use Rattle.question.proofs.Places.{question_place-small}
use Rattle.question.proofs.SystemLaws.{lawful, few}
use Rattle.finder_plain.specs.Finds.{FindsPlain}
use Rattle.finder_plain.specs.declared.finding.PlainAnswer.{PlainAnswer}
use Rattle.finder_plain.specs.declared.finding.PlainAnswer.TheVariants.{Reach, Cannot}
use Rattle.finder_plain.proofs.Theorems.{valid-answered, least_reach, none_cannot}

module _ (book : List ℕ) (q : Question) (goal : Goal) where
  pub plain_unique : (a b : Result PlainAnswer Refusal) → FindsPlain book q goal a → FindsPlain book q goal b → a ≡ b
  plain_unique (Ok (Reach h)) b (n, m, v, l) g = sym (least_reach book q goal v b h l g)
  plain_unique (Ok Cannot) b (n, m, v, none) g = sym (none_cannot book q goal v b none g)
  plain_unique (Err r) (Ok (Reach h)) f (n, m, v, l) = absurd (valid-answered book q goal v r f)
  plain_unique (Err r) (Ok Cannot) f (n, m, v, none) = absurd (valid-answered book q goal v r f)
  plain_unique (Err r) (Err s) f g = ap Err (first_unique f g)

  -- for those who pack the answer into one number
  pub plain_height-small : (h : ℕ) → FindsPlain book q goal (Ok (Reach h)) → h ≤ 254
  plain_height-small h (n, m, v, l) = omega (arith, rank-small (lawful v) (start_of q) h (few v) l)

  pub plain_place-small : (r : Refusal) → FindsPlain book q goal (Err r) → place r < 9
  plain_place-small r f = question_place-small book q goal r f
