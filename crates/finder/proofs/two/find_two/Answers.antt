-- `finder::two::find_two` meets its contract: the refusals of both legs, then 13 with the first short table, then the search.
use mathlib.Core.Path.{◌≡◌, refl, ap, ◌∙◌}
use mathlib.Core.Logic.{inl}
use Prim.Native.Nat.{◌^◌}
use native.Mathlib.Nat.{min-eq_left}
use native.Mathlib.Omega.{arith}
use Rattle.refusal.specs.declared.Refusal.TheVariants.{RankRoom}
use Rattle.knowledge.specs.Goal.{Goal, wanted as the_goal}
use Rattle.question.proofs.SystemLaws.{few}
use Rattle.ground.proofs.Answers.{passed_up}
use Rattle.finder.specs.FindsTwo.{Rooms, rooms_of, FindsTwo}
use Rattle.finder.proofs.TwoLaws.{leg_row, short-first, short-second}
use Rattle.finder.proofs.two.find_two.Goals as goal
use Rattle.finder.proofs.two.find_two.Goals.{Start, After-numbers-count}

-- the goals of the two legs, and the rooms as they were lent
abbrev wanted : Start → Goal
wanted c = the_goal c.args.goal

abbrev wanted2 : Start → Goal
wanted2 c = the_goal c.args.leg.goal

abbrev lent : Start → Rooms
lent c = rooms_of c.args.ranks.now c.args.ranks2.now c.args.plan.now

-- how many ranks there are
count : (c : After-numbers-count) → c.numbers-count.result ≡ 7 ^ c.in_ok-n.field-0.settings
count c = c.numbers-count.ensures ∙ ap (λ k. 7 ^ k) (min-eq_left (few c.in_ok-n.ensures.first))

pub returns-in_err-n : goal.returns-in_err-n
returns-in_err-n c =
    let s = (goal.at.returns-in_err-n c).Start in
    let a = c.args in
    passed_up (λ r. FindsTwo a.book.now a.question (wanted s) a.leg.team (wanted2 s) (lent s) r (lent s)) _ c.from_residual.ensures.1
    (inl record {
      why = _;
      answered = refl;
      first = leg_row a.book.now a.question (wanted s) a.leg.team (wanted2 s) (lent s) c.in_err-n.ensures;
      kept = refl;
    })

pub returns-then-ranks-count : goal.returns-then-ranks-count
returns-then-ranks-count c =
    let at = goal.at.returns-then-ranks-count c in
    let s = at.Start in
    inl record {
      why = RankRoom 1;
      answered = refl;
      first = short-first c.args.book.now c.args.question (wanted s) c.args.leg.team (wanted2 s) (lent s) c.in_ok-n.ensures (omega (arith, count at.After-numbers-count));
      kept = refl;
    }

pub returns-then-ranks2-count : goal.returns-then-ranks2-count
returns-then-ranks2-count c =
    let at = goal.at.returns-then-ranks2-count c in
    let s = at.Start in
    inl record {
      why = RankRoom 2;
      answered = refl;
      first =
          short-second c.args.book.now c.args.question (wanted s) c.args.leg.team (wanted2 s) (lent s) c.in_ok-n.ensures
          (omega (arith, count at.After-numbers-count)) (omega (arith, count at.After-numbers-count));
      kept = refl;
    }
