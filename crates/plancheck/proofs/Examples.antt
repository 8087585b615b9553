-- Two examples on the plan check, computed. Paper 01's marked one: "P10 for P9 the plan 1, 0: 19 at 1"; setting first and learning afterwards does not
-- learn. And a set that changes nothing: 32.
use mathlib.Core.Path.{◌≡◌, refl, sym, ap, subst, ◌∙◌}
use mathlib.Core.List.{List, [], ◌∷◌}
use mathlib.Core.Logic.{inr}
use mathlib.Core.Bool.{true, false, not}
use Prim.Native.Nat.{ℕ}
use lib.Dec.{T, lit<, lit≤}
use lib.ListN.{replicate}
use Rattle.ground.specs.Digits.{digit, put, bit}
use Rattle.ground.specs.Search.{all}
use Rattle.ground.specs.Table.{truth}
use Rattle.refusal.specs.declared.Refusal.TheVariants.{NotSettled, ChangesNothing as NothingChanged}
use Rattle.book_block.specs.Rule.{rule}
use Rattle.book_block.specs.declared.rule.Right.TheVariants.{Set as set-rule}
use Rattle.knowledge_acts.specs.Seven.{start_told, now_told, after_set, first_digit}
use Rattle.knowledge_acts.specs.declared.act.Act.TheVariants.{Set}
use Rattle.knowledge_acts.specs.Acts.{act_of, offered, set_to}
use Rattle.knowledge.specs.Number.{sum_of, first_at}
use Rattle.knowledge.specs.Fits.{agrees, fits, always, now_side}
use Rattle.knowledge.specs.Judgement.{judgement, known, learn_settled}
use Rattle.knowledge.specs.Goal.{Goal, goal_of, learn_table, all_settled, goal_settled}
use Rattle.plan.specs.Plans.{given, may}
use Rattle.plan.specs.declared.Permit.TheVariants.{ChangesNothing}
use Rattle.plan.proofs.Check.{judge-on, judge-fails, read_act_lem, read_idle, read-unsettled}
use Rattle.plan.specs.Check.{changes_nothing_case, not_settled, faulty, check}
use Rattle.plan.specs.Without.{changes_nothing, unless_nothing}
use Rattle.question.specs.Permitted.{by_rule, ruled, permitted}
use Rattle.question.specs.Question.{system_of, start_of}
use Rattle.question.specs.Asks.{ValidQuestion}
use Rattle.question.specs.declared.Question.{Question}
use Rattle.plancheck.specs.Checks.{Checks}
use Rattle.std.proofs.Common.{Err}

-- the tables over one setting of `1`, `~a` and `a`
abbrev pub always_true : List ℕ
always_true = 3 ∷ replicate 15 0

abbrev pub not_a : List ℕ
not_a = 1 ∷ replicate 15 0

abbrev pub is_a : List ℕ
is_a = 2 ∷ replicate 15 0

-- post 1 alone, with nothing known
abbrev pub p9_question : Question
p9_question = record { team = 1; known = 0; values = 0; held = 0 }

abbrev pub p9-goal : Goal
p9-goal = goal_of not_a is_a

-- "n = 1, look and set rules `1`, make `~a`, learn `a`", "the plan 1, 0": the look rule is not asked for. Its first byte is a set that may be done
first-set : (book : List ℕ) → rule book 0 0 set-rule ≡ always_true → T (may (system_of 1 book p9_question p9-goal) 0 (Set 0 0 false))
unfolding system_of offered permitted ruled changes_nothing judgement always fits agrees now_told truth all digit bit
first-set book e = subst (λ (t : List ℕ). T (given (by_rule (judgement 1 (now_side (digit 7 0)) t)))) (sym e) tt

-- after which nothing is known of the start, so that the learn formula is not settled
then_stop : (book : List ℕ) → T (not ((system_of 1 book p9_question p9-goal).goal (set_to 0 0 false)))
unfolding system_of goal_settled all_settled learn_table set_to known learn_settled judgement always fits agrees after_set now_told start_told truth all digit put bit
then_stop book = tt

pub p10-judged : (book : List ℕ) → rule book 0 0 set-rule ≡ always_true
    → check (system_of 1 book p9_question p9-goal) (start_of p9_question) (1 ∷ 0 ∷ []) ≡ faulty not_settled 1
unfolding start_of sum_of first_at first_digit act_of digit bit
p10-judged book e =
    judge-on (system_of 1 book p9_question p9-goal) 0 [] 0 1 (0 ∷ []) (set_to 0 0 false ∷ [])
    (read_act_lem (system_of 1 book p9_question p9-goal) 0 1 (Set 0 0 false) (lit< tt) refl (first-set book e))
    ∙ judge-fails (system_of 1 book p9_question p9-goal) (set_to 0 0 false) [] 1 0 [] not_settled
    (read-unsettled (system_of 1 book p9_question p9-goal) (set_to 0 0 false) (then_stop book))

pub p10 : {book : List ℕ} {m : ℕ} → ValidQuestion book p9_question p9-goal 1 m → rule book 0 0 set-rule ≡ always_true
    → Checks book p9_question p9-goal (1 ∷ 0 ∷ []) (Err (NotSettled 1))
p10 {book} {m} valid e = inr (not_settled, 1, refl, record { n = 1; m = m; valid = valid; short = lit≤ tt; judged = p10-judged book e })

-- the plan 1, 1, 0 sets `a` false a second time, where the team knows that it is: 32 at 1 (R-9)
again : (book : List ℕ) → rule book 0 0 set-rule ≡ always_true → (system_of 1 book p9_question p9-goal).permits (set_to 0 0 false) (Set 0 0 false) ≡ ChangesNothing
unfolding system_of permitted ruled changes_nothing set_to judgement always fits agrees after_set now_told truth all digit put bit
again book e = ap (λ (t : List ℕ). unless_nothing true (by_rule (judgement 1 (now_side (digit 7 (set_to 0 0 false))) t))) e

twice-judged : (book : List ℕ) → rule book 0 0 set-rule ≡ always_true
    → check (system_of 1 book p9_question p9-goal) (start_of p9_question) (1 ∷ 1 ∷ 0 ∷ []) ≡ faulty changes_nothing_case 1
unfolding start_of sum_of first_at first_digit act_of digit bit system_of offered
twice-judged book e =
    judge-on (system_of 1 book p9_question p9-goal) 0 [] 0 1 (1 ∷ 0 ∷ []) (set_to 0 0 false ∷ [])
    (read_act_lem (system_of 1 book p9_question p9-goal) 0 1 (Set 0 0 false) (lit< tt) refl (first-set book e))
    ∙ judge-fails (system_of 1 book p9_question p9-goal) (set_to 0 0 false) [] 1 1 (0 ∷ []) changes_nothing_case
    (read_idle (system_of 1 book p9_question p9-goal) (set_to 0 0 false) 1 (Set 0 0 false) (lit< tt) refl tt (again book e))

pub twice : {book : List ℕ} {m : ℕ} → ValidQuestion book p9_question p9-goal 1 m → rule book 0 0 set-rule ≡ always_true
    → Checks book p9_question p9-goal (1 ∷ 1 ∷ 0 ∷ []) (Err (NothingChanged 1))
twice {book} {m} valid e = inr (changes_nothing_case, 1, refl, record { n = 1; m = m; valid = valid; short = lit≤ tt; judged = twice-judged book e })
