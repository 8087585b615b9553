-- "settings held, which no set act may touch though looks may": what it does to the answers. The demands speak of the question's system, which holds: its
-- working plans are those of the same question with nothing held that set no held setting. So holding more never turns "cannot" into "reach" and
-- never lowers the height.
use mathlib.Core.Path.{subst}
use mathlib.Core.Logic.{◌↔◌}
use mathlib.Core.List.{List}
use Prim.Native.Nat.{ℕ, ◌^◌, ◌≤◌, ◌<◌}
use native.Mathlib.Omega.{arith}
use lib.ListN.{get_or}
use Rattle.std.specs.Prelude.{Ok}
use Rattle.book_sound.proofs.Theorems.{sound-one}
use Rattle.knowledge.specs.Goal.{Goal}
use Rattle.plan.specs.Plans.{Plan, Permitted, Works}
use Rattle.plan.proofs.Compare.{works_more, rank_no_greater}
use Rattle.question.specs.Question.{system_of, start_of}
use Rattle.question.specs.Asks.{ValidQuestion}
use Rattle.question.specs.declared.Question.{Question}
use Rattle.question.proofs.SystemLaws.{lawful, few}
use Rattle.question.proofs.Holding.{holding, HoldsMore, holding-permits, same_start, SetsNone, permitted_exactly, works_exactly}
use Rattle.finder.specs.Finds.{Finds, RanksFilled}
use Rattle.finder.specs.declared.answer.Answer.TheVariants.{Reach, Cannot}
use Rattle.finder.proofs.Theorems.{reach_works, cannot_none}
use Rattle.finder_plain.specs.Finds.{FindsPlain}
use Rattle.finder_plain.specs.declared.finding.PlainAnswer.TheVariants.{Reach as PlainReach, Cannot as PlainCannot}
use Rattle.finder_plain.proofs.Theorems.{plain_reach, plain_cannot}

-- ---- "Demands 2 and 3 count only plans without such sets"

module _ (n : ℕ) (book : List ℕ) (q : Question) (goal : Goal) (p : Plan) where
  -- the plans that work (demand 2), and those that are permitted (demand 3)
  pub works_without : Works (system_of n book q goal) (start_of q) p ↔ (Works (system_of n book (holding q 0) goal) (start_of q) p × SetsNone q.held p)
  works_without = works_exactly n book q goal p (start_of q)

  pub permitted-without : Permitted (system_of n book q goal) (start_of q) p
      ↔ (Permitted (system_of n book (holding q 0) goal) (start_of q) p × SetsNone q.held p)
  permitted-without = permitted_exactly n book q goal p (start_of q)

-- ---- the question q with `less` held and with `more` held

module _ {less more : ℕ} (holds : HoldsMore less more) (book : List ℕ) (q : Question) (goal : Goal) where
  -- a plan that works where more is held works where less is, over the same book
  still_works : {n m k o : ℕ} → ValidQuestion book (holding q less) goal n m → ValidQuestion book (holding q more) goal k o
      → (p : Plan) → Works (system_of k book (holding q more) goal) (start_of (holding q more)) p → Works (system_of n book (holding q less) goal) (start_of (holding q less)) p
  still_works {n} {k = k} v w p works =
      subst (λ (s : ℕ). Works (system_of n book (holding q less) goal) s p) (same_start q less more)
      (works_more (holding-permits holds n book q goal) p (start_of (holding q more))
      (subst (λ (j : ℕ). Works (system_of j book (holding q more) goal) (start_of (holding q more)) p) (sound-one w.sound v.sound).0 works))

  -- holding more never turns "cannot" into "reach"
  pub cannot_stays : (ranks plan r x ranks' plan' r' x' : List ℕ) → Finds book (holding q less) goal ranks plan (Ok Cannot) r x
      → (h size : ℕ) → Finds book (holding q more) goal ranks' plan' (Ok (Reach h size)) r' x' → ⊥
  cannot_stays ranks plan r x ranks' plan' r' x' first h size second =
      let (n, m, v, none, kept) = cannot_none book (holding q less) goal ranks plan r x first in
      let (k, o, w, (p, works, high, others, length-is, written)) = reach_works book (holding q more) goal ranks' plan' r' x' h size second in
      none p (still_works v w p works)

  -- and never lowers the height
  pub height_stays : (ranks plan r x ranks' plan' r' x' : List ℕ) (g small : ℕ) → Finds book (holding q less) goal ranks plan (Ok (Reach g small)) r x
      → (h size : ℕ) → Finds book (holding q more) goal ranks' plan' (Ok (Reach h size)) r' x' → g ≤ h
  height_stays ranks plan r x ranks' plan' r' x' g small first h size second =
      let (n, m, v, (s, done, tall, least, size_is, room)) = reach_works book (holding q less) goal ranks plan r x g small first in
      let (k, o, w, (p, works, high, others, length-is, written)) = reach_works book (holding q more) goal ranks' plan' r' x' h size second in
      omega (arith, high, least p (still_works v w p works))

  -- nor does it lower a rank, of any knowledge number
  pub ranks_stay : {n m : ℕ} → ValidQuestion book (holding q less) goal n m → (ranks r ranks' r' : List ℕ)
      → RanksFilled n (system_of n book (holding q less) goal) ranks r → RanksFilled n (system_of n book (holding q more) goal) ranks' r'
      → (k : ℕ) → k < 7 ^ n → get_or r k 0 ≤ get_or r' k 0
  ranks_stay {n} v ranks r ranks' r' a b k l =
      rank_no_greater (holding-permits holds n book q goal) (lawful v) (few v) k (get_or r' k 0) (get_or r k 0) (b.ranks k l) (a.ranks k l)

  -- the same of the second finder
  pub plain_cannot_stays : FindsPlain book (holding q less) goal (Ok PlainCannot) → (h : ℕ) → FindsPlain book (holding q more) goal (Ok (PlainReach h)) → ⊥
  plain_cannot_stays first h second =
      let (n, m, v, none) = plain_cannot book (holding q less) goal first in
      let (k, o, w, (p, works, high, others)) = plain_reach book (holding q more) goal h second in
      none p (still_works v w p works)

  pub plain_height_stays : (g : ℕ) → FindsPlain book (holding q less) goal (Ok (PlainReach g))
      → (h : ℕ) → FindsPlain book (holding q more) goal (Ok (PlainReach h)) → g ≤ h
  plain_height_stays g first h second =
      let (n, m, v, (s, done, tall, least)) = plain_reach book (holding q less) goal g first in
      let (k, o, w, (p, works, high, others)) = plain_reach book (holding q more) goal h second in
      omega (arith, high, least p (still_works v w p works))
