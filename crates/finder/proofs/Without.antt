-- What is answered by a system is answered by the same without the sets that change nothing, and the other way (R-9): the ranks, the least height and
-- the plan written are the same. So the finder's own proofs are about the rules alone, and its promise about acts that change something.
use mathlib.Core.Logic.{◌↔◌}
use mathlib.Core.List.{List}
use Rattle.std.proofs.Common.{Result, Ok, Err}
use Prim.Native.Nat.{ℕ}
use lib.ListN.{get_or}
use Rattle.plan.specs.Plans.{System}
use Rattle.plan.specs.Without.{without}
use Rattle.plan.proofs.Without.{least-same, cannot_same, rank_same, written_same}
use Rattle.finder.specs.Answers.{AnswersFrom}
use Rattle.finder.specs.Finds.{RanksFilled}
use Rattle.refusal.specs.declared.Refusal.{Refusal}
use Rattle.finder.specs.declared.answer.Answer.{Answer}
use Rattle.finder.specs.declared.answer.Answer.TheVariants.{Reach, Cannot}

pub ranks-without : {n : ℕ} {S : System} {old new : List ℕ} → RanksFilled n S old new ↔ RanksFilled n (without S) old new
ranks-without {n} {S} {old} {new} = (
  λ f. record { size = f.size; ranks = λ k l. (rank_same S k (get_or new k 0)).0 (f.ranks k l); later = f.later },
  λ f. record { size = f.size; ranks = λ k l. (rank_same S k (get_or new k 0)).1 (f.ranks k l); later = f.later },
)

pub answers-without : (S : System) (k : ℕ) (old : List ℕ) (a : Result Answer Refusal) (new : List ℕ) → AnswersFrom S k old a new ↔ AnswersFrom (without S) k old a new
answers-without S k old (Ok (Reach h size)) new = (
  λ (least, (p, w, long, fits, e)). ((least-same S k h).0 least, (p, (written_same S p k).0 w, long, fits, e)),
  λ (least, (p, w, long, fits, e)). ((least-same S k h).1 least, (p, (written_same S p k).1 w, long, fits, e)),
)
answers-without S k old (Ok Cannot) new = (λ (none, e). ((cannot_same S k).0 none, e), λ (none, e). ((cannot_same S k).1 none, e))
answers-without S k old (Err r) new = (
  λ (e, (p, w, long), kept). (e, (p, (written_same S p k).0 w, long), kept),
  λ (e, (p, w, long), kept). (e, (p, (written_same S p k).1 w, long), kept),
)
