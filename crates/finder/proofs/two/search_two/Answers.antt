-- `finder::two::search_two` meets its contract: the second leg's ranks are those of its system, and so the tables tell the first leg's, by its rules
-- alone; the ranks and the answer are the same without the sets that change nothing.
use mathlib.Core.Path.{◌≡◌, sym, subst}
use Prim.Native.Nat.{ℕ, ◌^◌, ◌<◌}
use native.Mathlib.Omega.{arith}
use Rattle.knowledge.specs.Goal.{Goal, wanted as the_goal}
use Rattle.plan.specs.Plans.{System}
use Rattle.plan.specs.Legs.{first_leg}
use Rattle.plan.specs.Without.{without}
use Rattle.question.specs.Question.{ruled_system, start_of}
use Rattle.question.specs.Legs.{second_system, first_system}
use Rattle.question.proofs.AskLaws.{start_is}
use Rattle.question.proofs.SystemLaws.{from_ruled, valid_start}
use Rattle.question.proofs.LegLaws.{second_lawful}
use Rattle.finder.specs.Answers.{AnswersFrom}
use Rattle.finder.specs.Tables.{TablesTell}
use Rattle.finder.specs.Finds.{RanksFilled}
use Rattle.finder.proofs.Without.{ranks-without, answers-without}
use Rattle.finder.proofs.Tables.{first-tells, first-filled}
use Rattle.finder.proofs.two.search_two.Goals as goal

pub from_start-requires : goal.from_start-requires
from_start-requires c =
    let wantedFirst : Goal =
    the_goal c.args.goal in
    let wantedSecond : Goal =
    the_goal c.args.leg.goal in
    let secondHere : System =
    second_system c.args.n c.args.book.now c.args.question c.args.leg.team (wantedSecond) in
    let firstHere : System =
    first_leg c.args.n (ruled_system c.args.n c.args.book.now c.args.question (wantedFirst)) (secondHere) in
    let told : TablesTell c.args.n c.posts_allowed-set.result c.posts_allowed-look.result c.fill_first.new.ranks (firstHere) =
    let v = c.requires.0.1 in
    let leg = c.fill_leg.ensures in
    first-tells v.first c.posts_allowed-set.ensures c.posts_allowed-look.ensures c.made-done.ensures c.learnt-known.ensures
    (second_lawful c.args.book.now c.args.question (wantedFirst) c.args.leg.team (wantedSecond) v) leg.ranks
    c.fill_first.ensures (omega (arith, c.requires.1.second_room, leg.size)) c.requires.1.first_room in
    let filled : RanksFilled c.args.n (firstHere) c.args.ranks.now c.fill_first.new.ranks =
    let v = c.requires.0.1 in
    let leg = c.fill_leg.ensures in
    first-filled v.first c.posts_allowed-set.ensures c.posts_allowed-look.ensures c.made-done.ensures c.learnt-known.ensures
    (second_lawful c.args.book.now c.args.question (wantedFirst) c.args.leg.team (wantedSecond) v) leg.ranks
    c.fill_first.ensures (omega (arith, c.requires.1.second_room, leg.size)) c.requires.1.first_room in
    let start-here : c.number-start.result ≡ start_of c.args.question =
    start_is c.args.question c.at_start.ensures c.number-start.ensures in (
      subst (λ (x : ℕ). x < 7 ^ c.args.n) (sym (start-here)) (valid_start c.requires.0.1.first),
      omega (arith, c.requires.1.first_room, (filled).size),
      (firstHere, told),
    )

pub returns : goal.returns
unfolding first_leg
returns c =
    let wantedFirst : Goal =
    the_goal c.args.goal in
    let wantedSecond : Goal =
    the_goal c.args.leg.goal in
    let secondHere : System =
    second_system c.args.n c.args.book.now c.args.question c.args.leg.team (wantedSecond) in
    let firstHere : System =
    first_leg c.args.n (ruled_system c.args.n c.args.book.now c.args.question (wantedFirst)) (secondHere) in
    let asked : (P : System → Type 0) → P (without (firstHere)) → P (first_system c.args.n c.args.book.now c.args.question (wantedFirst) c.args.leg.team (wantedSecond)) =
    λ P. λ h. from_ruled c.args.n c.args.book.now c.args.question (wantedFirst) (λ (S : System). P (first_leg c.args.n S (secondHere))) h in
    let told : TablesTell c.args.n c.posts_allowed-set.result c.posts_allowed-look.result c.fill_first.new.ranks (firstHere) =
    let v = c.requires.0.1 in
    let leg = c.fill_leg.ensures in
    first-tells v.first c.posts_allowed-set.ensures c.posts_allowed-look.ensures c.made-done.ensures c.learnt-known.ensures
    (second_lawful c.args.book.now c.args.question (wantedFirst) c.args.leg.team (wantedSecond) v) leg.ranks
    c.fill_first.ensures (omega (arith, c.requires.1.second_room, leg.size)) c.requires.1.first_room in
    let filled : RanksFilled c.args.n (firstHere) c.args.ranks.now c.fill_first.new.ranks =
    let v = c.requires.0.1 in
    let leg = c.fill_leg.ensures in
    first-filled v.first c.posts_allowed-set.ensures c.posts_allowed-look.ensures c.made-done.ensures c.learnt-known.ensures
    (second_lawful c.args.book.now c.args.question (wantedFirst) c.args.leg.team (wantedSecond) v) leg.ranks
    c.fill_first.ensures (omega (arith, c.requires.1.second_room, leg.size)) c.requires.1.first_room in
    let start-here : c.number-start.result ≡ start_of c.args.question =
    start_is c.args.question c.at_start.ensures c.number-start.ensures in
    record {
      second_ranks = c.fill_leg.ensures;
      first_ranks =
          asked (λ (S : System). RanksFilled c.args.n S c.args.ranks.now c.fill_first.new.ranks)
          (ranks-without.0 (filled));
      answers =
          asked (λ (S : System). AnswersFrom S (start_of c.args.question) c.args.plan.now c.from_start.result c.from_start.new.plan)
          ((answers-without (firstHere) (start_of c.args.question) c.args.plan.now c.from_start.result c.from_start.new.plan).0
          (subst (λ (x : ℕ). AnswersFrom (firstHere) x c.args.plan.now c.from_start.result c.from_start.new.plan)
          (start-here) (c.from_start.ensures (firstHere) (told))));
    }
