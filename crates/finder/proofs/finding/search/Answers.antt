-- `finder::finding::search` meets its contract: the tables tell the system of the question's rules, and the ranks are its ranks; they and the answer are
-- the same without the sets that change nothing, which is the question's system.
use mathlib.Core.Path.{◌≡◌, sym, subst}
use Prim.Native.Nat.{ℕ, ◌^◌, ◌<◌}
use native.Mathlib.Omega.{arith}
use Rattle.knowledge.specs.Goal.{wanted as the_goal}
use Rattle.plan.specs.Plans.{System}
use Rattle.plan.specs.Without.{without}
use Rattle.question.specs.Question.{system_of, ruled_system, start_of}
use Rattle.question.proofs.AskLaws.{start_is}
use Rattle.question.proofs.SystemLaws.{from_ruled, valid_start}
use Rattle.finder.specs.Answers.{AnswersFrom}
use Rattle.finder.specs.Tables.{TablesTell}
use Rattle.finder.specs.Finds.{RanksFilled}
use Rattle.finder.proofs.Tables.{tables_tell, ranks-filled}
use Rattle.finder.proofs.Without.{ranks-without, answers-without}
use Rattle.finder.proofs.finding.search.Goals as goal

pub from_start-requires : goal.from_start-requires
from_start-requires c =
    let systemHere : System =
    ruled_system c.args.n c.args.book.now c.args.question (the_goal c.args.goal) in
    let told : TablesTell c.args.n c.posts_allowed-set.result c.posts_allowed-look.result c.fill_ranks.new.ranks (systemHere) =
    tables_tell c.requires.0.1 c.posts_allowed-set.ensures c.posts_allowed-look.ensures
    c.made-done.ensures c.learnt-known.ensures c.fill_ranks.ensures c.requires.1 in
    let filled : RanksFilled c.args.n (systemHere) c.args.ranks.now c.fill_ranks.new.ranks =
    ranks-filled c.requires.0.1 c.posts_allowed-set.ensures c.posts_allowed-look.ensures
    c.made-done.ensures c.learnt-known.ensures c.fill_ranks.ensures c.requires.1 in
    let start-here : c.number-start.result ≡ start_of c.args.question =
    start_is c.args.question c.at_start.ensures c.number-start.ensures in (
      subst (λ (x : ℕ). x < 7 ^ c.args.n) (sym (start-here)) (valid_start c.requires.0.1),
      omega (arith, c.requires.1, (filled).size),
      (systemHere, told),
    )

pub returns : goal.returns
returns c =
    let systemHere : System =
    ruled_system c.args.n c.args.book.now c.args.question (the_goal c.args.goal) in
    let asked : (P : System → Type 0) → P (without (systemHere)) → P (system_of c.args.n c.args.book.now c.args.question (the_goal c.args.goal)) =
    λ P. λ h. from_ruled c.args.n c.args.book.now c.args.question (the_goal c.args.goal) P h in
    let told : TablesTell c.args.n c.posts_allowed-set.result c.posts_allowed-look.result c.fill_ranks.new.ranks (systemHere) =
    tables_tell c.requires.0.1 c.posts_allowed-set.ensures c.posts_allowed-look.ensures
    c.made-done.ensures c.learnt-known.ensures c.fill_ranks.ensures c.requires.1 in
    let filled : RanksFilled c.args.n (systemHere) c.args.ranks.now c.fill_ranks.new.ranks =
    ranks-filled c.requires.0.1 c.posts_allowed-set.ensures c.posts_allowed-look.ensures
    c.made-done.ensures c.learnt-known.ensures c.fill_ranks.ensures c.requires.1 in
    let start-here : c.number-start.result ≡ start_of c.args.question =
    start_is c.args.question c.at_start.ensures c.number-start.ensures in (
      asked (λ (S : System). RanksFilled c.args.n S c.args.ranks.now c.fill_ranks.new.ranks) (ranks-without.0 (filled)),
      asked (λ (S : System). AnswersFrom S (start_of c.args.question) c.args.plan.now c.from_start.result c.from_start.new.plan)
          ((answers-without (systemHere) (start_of c.args.question) c.args.plan.now c.from_start.result c.from_start.new.plan).0
          (subst (λ (x : ℕ). AnswersFrom (systemHere) x c.args.plan.now c.from_start.result c.from_start.new.plan)
          (start-here) (c.from_start.ensures (systemHere) (told)))),
    )
