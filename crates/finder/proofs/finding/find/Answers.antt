-- `finder::finding::find` meets its contract: refusals 6 to 12, then 13, then the search.
use mathlib.Core.Path.{◌≡◌, refl, ap, ◌∙◌}
use mathlib.Core.Logic.{inl}
use Prim.Native.Nat.{◌^◌}
use native.Mathlib.Nat.{min-eq_left}
use native.Mathlib.Omega.{arith}
use Rattle.refusal.specs.declared.Refusal.TheVariants.{RankRoom}
use Rattle.knowledge.specs.Goal.{wanted as the_goal}
use Rattle.question.proofs.SystemLaws.{few}
use Rattle.ground.proofs.Answers.{passed_up}
use Rattle.finder.specs.Finds.{Finds}
use Rattle.finder.proofs.FindLaws.{early, short-table}
use Rattle.finder.proofs.finding.find.Goals as goal
use Rattle.finder.proofs.finding.find.Goals.{After-numbers}

-- how many ranks there are
count : (c : After-numbers) → c.numbers.result ≡ 7 ^ c.in_ok-n.field-0.settings
count c = c.numbers.ensures ∙ ap (λ k. 7 ^ k) (min-eq_left (few c.in_ok-n.ensures))

pub returns-in_err-n : goal.returns-in_err-n
returns-in_err-n c =
    let a = c.args in
    let wanted = the_goal a.goal in
    passed_up (λ r. Finds a.book.now a.question wanted a.ranks.now a.plan.now r a.ranks.now a.plan.now) _ c.from_residual.ensures.1
    (inl record {
      why = _;
      answered = refl;
      first = early a.book.now a.question wanted a.ranks.now c.in_err-n.ensures;
      ranks_kept = refl;
      plan_kept = refl;
    })

pub returns-then-ranks-numbers : goal.returns-then-ranks-numbers
returns-then-ranks-numbers c =
    inl record {
      why = RankRoom 0;
      answered = refl;
      first = short-table c.in_ok-n.ensures c.args.ranks.now (omega (arith, count (goal.at.returns-then-ranks-numbers c).After-numbers));
      ranks_kept = refl;
      plan_kept = refl;
    }
