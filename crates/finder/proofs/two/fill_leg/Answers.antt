-- `finder::two::fill_leg` meets its contract: the tables tell the system of the question's rules, whose ranks are those without the sets that change
-- nothing.
use Rattle.knowledge.specs.Goal.{wanted as the_goal}
use Rattle.plan.specs.Plans.{System}
use Rattle.question.proofs.SystemLaws.{from_ruled}
use Rattle.finder.specs.Finds.{RanksFilled}
use Rattle.finder.proofs.Without.{ranks-without}
use Rattle.finder.proofs.Tables.{ranks-filled}
use Rattle.finder.proofs.two.fill_leg.Goals as goal

pub returns : goal.returns
returns c =
    let args = c.args in
    from_ruled args.n args.book.now args.question (the_goal args.goal)
    (λ (S : System). RanksFilled args.n S args.ranks.now c.fill_ranks.new.ranks)
    (ranks-without.0 (ranks-filled c.requires.0.1 c.posts_allowed-set.ensures c.posts_allowed-look.ensures
    c.made-done.ensures c.learnt-known.ensures c.fill_ranks.ensures c.requires.1))
