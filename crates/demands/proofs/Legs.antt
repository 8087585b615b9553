-- Two legs (R-8), said of what the contract of `finder::find_two` allows, `FindsTwo`: "The first team must settle its goal and stop where the second
-- team, carrying on with everything known, can settle its own. Learn formulas in both legs mean the very first start. The height is that of the first
-- leg alone." Demand 3 is not claimed for two legs.
use mathlib.Core.Path.{◌≡◌}
use mathlib.Core.Logic.{◌⊎◌, ◌↔◌}
use mathlib.Core.List.{List, ◌++◌}
use Prim.Native.Nat.{ℕ, ◌^◌, ◌≤◌, ◌<◌}
use lib.ListN.{length, get_or, drop}
use Rattle.std.specs.Prelude.{Result, Ok, Err}
use Rattle.ground.specs.Search.{Least}
use Rattle.refusal.specs.declared.Refusal.{Refusal}
use Rattle.refusal.specs.declared.Refusal.TheVariants.{PlanRoom}
use Rattle.refusal.specs.Order.{First}
use Rattle.knowledge.specs.Goal.{Goal, wanted}
use Rattle.plan.specs.Plans.{Plan, height}
use Rattle.plan.specs.Ranks.{Written}
use Rattle.plan.specs.Bytes.{encode}
use Rattle.plan.specs.Legs.{WorksThen, ReachThen}
use Rattle.plan.proofs.Legs.{rank_then}
use Rattle.question.specs.Question.{system_of, start_of}
use Rattle.question.specs.Legs.{second_system, first_system, WorksForTwo, ValidLegs}
use Rattle.question.specs.declared.Question.{Question}
use Rattle.question.proofs.LegLaws.{second_lawful}
use Rattle.finder.specs.Finds.{RanksFilled}
use Rattle.finder.specs.FindsTwo.{Rooms, rooms_of, find_two_rows, RoomForTwo, AnsweredTwo, FindsTwo}
use Rattle.finder.specs.declared.answer.Answer.{Answer}
use Rattle.finder.specs.declared.answer.Answer.TheVariants.{Reach, Cannot}
use Rattle.finder.proofs.TwoTheorems as Two
use Rattle.finder.proofs.find_two.Reads as find-two-contract

module _ (book : List ℕ) (q : Question) (goal : Goal) (team2 : ℕ) (goal2 : Goal) where
  -- one result alone, three rooms included
  pub one-two-answer : (old : Rooms) (a b : Result Answer Refusal) (x y : Rooms) → FindsTwo book q goal team2 goal2 old a x → FindsTwo book q goal team2 goal2 old b y → (a ≡ b) × (x ≡ y)
  one-two-answer = Two.two_unique book q goal team2 goal2

  module _ (old new : Rooms) where
    -- "reach exactly when", both ways, the least height, and the plan in the room is such a plan
    pub two_reach : (h size : ℕ) → FindsTwo book q goal team2 goal2 old (Ok (Reach h size)) new
        → (n : ℕ) × (m : ℕ) × ValidLegs book q goal team2 goal2 n m × AnsweredTwo n book q goal team2 goal2 old (Ok (Reach h size)) new
        × ((p : Plan) × WorksForTwo book q goal team2 goal2 n p × (height p ≡ h) × ((s : Plan) → WorksForTwo book q goal team2 goal2 n s → h ≤ height s)
        × (size ≡ length (encode p)) × (new.plan ≡ encode p ++ drop size old.plan))
    two_reach = Two.two_reach book q goal team2 goal2 old new

    pub two_reach_where : {n m : ℕ} → ValidLegs book q goal team2 goal2 n m → RoomForTwo n old → 32640 ≤ length old.plan
        → (a : Result Answer Refusal) (p : Plan) → WorksForTwo book q goal team2 goal2 n p → FindsTwo book q goal team2 goal2 old a new → (h : ℕ) × (size : ℕ) × (a ≡ Ok (Reach h size))
    two_reach_where v room = Two.two_reach_where book q goal team2 goal2 old new v room

    pub two_cannot : FindsTwo book q goal team2 goal2 old (Ok Cannot) new
        → (n : ℕ) × (m : ℕ) × ValidLegs book q goal team2 goal2 n m × AnsweredTwo n book q goal team2 goal2 old (Ok Cannot) new
        × ((p : Plan) → WorksForTwo book q goal team2 goal2 n p → ⊥) × (new.plan ≡ old.plan)
    two_cannot = Two.two_cannot book q goal team2 goal2 old new

    pub two_cannot_where : {n m : ℕ} → ValidLegs book q goal team2 goal2 n m → RoomForTwo n old
        → (a : Result Answer Refusal) → ((p : Plan) → WorksForTwo book q goal team2 goal2 n p → ⊥) → FindsTwo book q goal team2 goal2 old a new → a ≡ Ok Cannot
    two_cannot_where v room = Two.two_cannot_where book q goal team2 goal2 old new v room

    -- ""Cannot" and 14 leave both tables filled": the second leg's ranks by the second team and goal alone, the first's by both
    pub two-ranks : {n m : ℕ} → ValidLegs book q goal team2 goal2 n m → RoomForTwo n old
        → (a : Result Answer Refusal) → FindsTwo book q goal team2 goal2 old a new → AnsweredTwo n book q goal team2 goal2 old a new
    two-ranks v room = Two.two-answered book q goal team2 goal2 old new v room

    -- what a refusal leaves: all three rooms as they were; and 14 both tables filled and the plan room as it was
    pub refused-two : (w : Refusal) → FindsTwo book q goal team2 goal2 old (Err w) new
        → (First (find_two_rows book q goal team2 goal2 old) w × (new ≡ old))
        ⊎ ((w ≡ PlanRoom) × (new.plan ≡ old.plan) × ((n : ℕ) × (m : ℕ) × ValidLegs book q goal team2 goal2 n m × RoomForTwo n old
        × RanksFilled n (first_system n book q goal team2 goal2) old.ranks new.ranks
        × RanksFilled n (second_system n book q team2 goal2) old.ranks2 new.ranks2
        × ((p : Plan) × WorksForTwo book q goal team2 goal2 n p × Written (first_system n book q goal team2 goal2) (start_of q) p × (length old.plan < length (encode p)))))
    refused-two = Two.two-refused book q goal team2 goal2 old new

    -- the order, the other way: the first of the rows is what is given
    pub two-rows-given : (a : Result Answer Refusal) (w : Refusal) → First (find_two_rows book q goal team2 goal2 old) w → FindsTwo book q goal team2 goal2 old a new
        → (a ≡ Err w) × (new ≡ old)
    two-rows-given = Two.two-rows-given book q goal team2 goal2 old new

    -- what a byte of the first table says, of every knowledge number: the least height of a plan of the first team from there that leaves the second team
    -- a working plan at each stop, or 255 and there is none
    pub two-rank_means : {n m : ℕ} → ValidLegs book q goal team2 goal2 n m → RoomForTwo n old → (a : Result Answer Refusal) → FindsTwo book q goal team2 goal2 old a new
        → (k : ℕ) → k < 7 ^ n
        → Least (ReachThen (system_of n book q goal) (second_system n book q team2 goal2) k) (get_or new.ranks k 0)
        ⊎ ((get_or new.ranks k 0 ≡ 255) × ((p : Plan) → WorksThen (system_of n book q goal) (second_system n book q team2 goal2) k p → ⊥))
    two-rank_means {n} v room a f k l =
        rank_then (second_lawful book q goal team2 goal2 v) (system_of n book q goal) k (get_or new.ranks k 0) ((two-ranks v room a f).first_ranks.ranks k l)

-- and the contract is the function's own
pub tied_two : (κs : _) (a : _) (x : _) (s : _) → find-two-contract.Post κs a x s
    ↔ FindsTwo a.0.now a.1.0 (wanted a.1.1.0) a.1.1.1.0.team (wanted a.1.1.1.0.goal)
    (rooms_of a.1.1.1.1.0.now a.1.1.1.1.1.0.now a.1.1.1.1.1.1.0.now) x
    (rooms_of s.1.1.1.1.0.now s.1.1.1.1.1.0.now s.1.1.1.1.1.1.0.now)
tied_two κs a x s = (λ p. p, λ p. p)
