-- From a valid question to the search from its start, and from what that answers to the promise: the least height is the same without the sets that
-- change nothing, which is the question's system.
use mathlib.Core.Path.{◌≡◌, subst}
use mathlib.Core.List.{List}
use Prim.Native.Nat.{ℕ}
use lib.ListN.{replicate}
use Rattle.std.proofs.Common.{Ok}
use Rattle.ground.specs.Search.{Least}
use Rattle.knowledge.specs.Goal.{Goal}
use Rattle.plan.specs.Plans.{System}
use Rattle.plan.specs.Ranks.{Reach as ReachIn, Cannot as CannotFrom}
use Rattle.plan.proofs.Without.{least-same, cannot_same}
use Rattle.question.specs.Question.{ruled_system, start_of}
use Rattle.question.specs.Asks.{ValidQuestion}
use Rattle.question.specs.declared.Question.{Question}
use Rattle.question.proofs.SystemLaws.{few, from_ruled, ruled_lawful, valid_start}
use Rattle.finder_plain.specs.Entries.{Searches}
use Rattle.finder_plain.specs.Finds.{AnswersPlainly, FindsPlain}
use Rattle.finder_plain.specs.declared.finding.PlainAnswer.{PlainAnswer}
use Rattle.finder_plain.specs.declared.finding.PlainAnswer.TheVariants.{Reach, Cannot}
use Rattle.finder_plain.proofs.EntryLaws.{first-bars}

module _ {book : List ℕ} {q : Question} {goal : Goal} {n m : ℕ} (v : ValidQuestion book q goal n m) {start : ℕ} (e : start ≡ start_of q) where
  -- nothing is remembered yet
  pub first_searches : (count : ℕ) → count ≡ 823543 → Searches n (ruled_system n book q goal) start (replicate count 0)
  first_searches count size = record {
    few = few v;
    law = ruled_lawful v;
    state = rw e (valid_start v);
    bars = first-bars n (ruled_system n book q goal) count size (few v);
  }

  pub answered : (r : PlainAnswer) → AnswersPlainly (ruled_system n book q goal) start r → FindsPlain book q goal (Ok r)
  answered (Reach h) a = (
    n,
    m,
    v,
    from_ruled n book q goal (λ (S : System). Least (ReachIn S (start_of q)) h)
        ((least-same (ruled_system n book q goal) (start_of q) h).0 (subst (λ (k : ℕ). Least (ReachIn (ruled_system n book q goal) k) h) e a)),
  )
  answered Cannot a = (
    n,
    m,
    v,
    from_ruled n book q goal (λ (S : System). CannotFrom S (start_of q))
        ((cannot_same (ruled_system n book q goal) (start_of q)).0 (subst (λ (k : ℕ). CannotFrom (ruled_system n book q goal) k) e a)),
  )
