-- Demand 3, said of a question once for both finders: what it means for a secret that no plan works. With no making and one learn formula the goal is
-- settled where that formula is.
use mathlib.Core.Path.{◌≡◌, sym, subst}
use mathlib.Core.Bool.{true}
use mathlib.Core.List.{List}
use Prim.Native.Nat.{ℕ}
use lib.Dec.{T}
use Rattle.ground.specs.Digits.{digit}
use Rattle.ground.specs.Search.{all}
use Rattle.ground.proofs.Bools.{and_in, true→T}
use Rattle.knowledge.specs.Judgement.{known, learn_settled}
use Rattle.knowledge.specs.Goal.{Goal, learn_count, learn_table, all_settled, goal_settled}
use Rattle.knowledge.proofs.Known.{known_intro}
use Rattle.plan.specs.Plans.{System, Plan, Permitted}
use Rattle.plan.specs.Ranks.{Cannot}
use Rattle.plan.specs.Secret.{Twins}
use Rattle.plan.proofs.Secret.{secret}
use Rattle.plan.proofs.Without.{cannot_same}
use Rattle.question.specs.Question.{system_of, ruled_system, start_of, NoMaking}
use Rattle.question.specs.Asks.{ValidQuestion}
use Rattle.question.specs.declared.Question.{Question}
use Rattle.question.proofs.SystemLaws.{system-without, ruled_lawful, lawful}

module _ (book : List ℕ) (q : Question) (goal : Goal) (n : ℕ) (one : NoMaking n goal) (single : learn_count goal.learn ≡ 1) where
  pub enough : (k : ℕ) → T (learn_settled n (digit 7 k) (learn_table goal.learn 0)) → T ((system_of n book q goal).goal k)
  unfolding system_of goal_settled all_settled all
  enough k h =
      and_in (known n (digit 7 k) goal.make) (all (learn_count goal.learn) (λ j. learn_settled n (digit 7 k) (learn_table goal.learn j)))
      (known_intro n (digit 7 k) goal.make (λ v l t. true→T (one v l)))
      (subst (λ (c : ℕ). T (all c (λ j. learn_settled n (digit 7 k) (learn_table goal.learn j)))) (sym single) (and_in (learn_settled n (digit 7 k) (learn_table goal.learn 0)) true h tt))

  -- where no plan works, every permitted plan has two starting valuations that it cannot tell apart and that give the formula different values
  pub none_secret : {m : ℕ} → ValidQuestion book q goal n m → Cannot (system_of n book q goal) (start_of q)
      → (p : Plan) → Permitted (system_of n book q goal) (start_of q) p → Twins n (learn_table goal.learn 0) (start_of q) p
  none_secret v none p w = secret n (learn_table goal.learn 0) (lawful v) enough (start_of q) none p w

  -- and so has one with sets that change nothing, where the rules alone permit it: such sets tell the team nothing
  enough_ruled : (k : ℕ) → T (learn_settled n (digit 7 k) (learn_table goal.learn 0)) → T ((ruled_system n book q goal).goal k)
  unfolding system_of ruled_system
  enough_ruled k h = enough k h

  pub none_secret_ruled : {m : ℕ} → ValidQuestion book q goal n m → Cannot (system_of n book q goal) (start_of q)
      → (p : Plan) → Permitted (ruled_system n book q goal) (start_of q) p → Twins n (learn_table goal.learn 0) (start_of q) p
  none_secret_ruled v none p w =
      secret n (learn_table goal.learn 0) (ruled_lawful v) enough_ruled (start_of q)
      ((cannot_same (ruled_system n book q goal) (start_of q)).1 (subst (λ (S : System). Cannot S (start_of q)) (system-without n book q goal) none)) p w
