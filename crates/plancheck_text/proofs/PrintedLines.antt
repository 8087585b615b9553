-- What is printed is written as the grammar says: a number's decimal is one or more digits, and a plan's lines are a line a byte, by induction on the plan.
use mathlib.Core.Path.{refl, sym, ◌∙◌, subst}
use mathlib.Core.Logic.{⊎_elim}
use mathlib.Core.List.{List, ◌++◌, append_assoc}
use Prim.Native.Nat.{ℕ, ◌+◌, ◌≤◌, ◌<◌}
use native.Mathlib.Omega.{arith}
use lib.ListN.{length, length-append}
use Rattle.ground.specs.Text.{bytes}
use Rattle.ground.proofs.Bools.{lt_or_ge}
use Rattle.knowledge_acts.specs.declared.act.Act.TheVariants.{Set, Look}
use Rattle.plan.specs.Plans.{Plan, stop, set_then, look_then}
use Rattle.plan.specs.Bytes.{encode}
use Rattle.print_room.specs.Decimal.{decimal}
use Rattle.print_room.proofs.Decimals.{decimal-small, decimal-more}
use Rattle.print_room.proofs.Numerals.{decimal-is}
use Rattle.print_answer.specs.Listed.{act_text, numbered, plan_text, Lettered}
use Rattle.plancheck_text.specs.Grammar.{Number, stops, acts, LinesOf}

pub decimal-number : (n : ℕ) → Number (decimal n)
decimal-number n = ((decimal-is n).all_digits, some)
  where
    some : 0 < length (decimal n)
    some =
        ⊎_elim
        (λ (h : n < 10). rw (decimal-small n h) (omega arith))
        (λ (h : 10 ≤ n). rw (decimal-more n h, length-append) (omega arith))
        (lt_or_ge n 10)

pub plan-lines : (p : Plan) (depth : ℕ) (t b : List ℕ) → Lettered p → LinesOf t b → LinesOf (plan_text depth p ++ t) (encode p ++ b)
plan-lines stop depth t b l h = (decimal depth ++ bytes " " ++ bytes "stop", t, stops (decimal depth) (decimal-number depth) refl refl, refl, h)
plan-lines (set_then i q v p) depth t b l h = (
  decimal depth ++ bytes " " ++ act_text (Set i q v),
  plan_text (depth + 1) p ++ t,
  acts (decimal depth) (Set i q v) (decimal-number depth) l.0 l.1 refl refl,
  append_assoc (numbered depth (act_text (Set i q v))) (plan_text (depth + 1) p) t,
  plan-lines p (depth + 1) t b l.2 h,
)
plan-lines (look_then i q p r) depth t b l h =
    let first = numbered depth (act_text (Look i q)) in
    let if-false = plan_text (depth + 1) p in
    let if-true = plan_text (depth + 1) r in (
      decimal depth ++ bytes " " ++ act_text (Look i q),
      if-false ++ (if-true ++ t),
      acts (decimal depth) (Look i q) (decimal-number depth) l.0 l.1 refl refl,
      append_assoc (first ++ if-false) if-true t ∙ append_assoc first if-false (if-true ++ t),
      subst (LinesOf (if-false ++ (if-true ++ t))) (sym (append_assoc (encode p) (encode r) b))
          (plan-lines p (depth + 1) (if-true ++ t) (encode r ++ b) l.2 (plan-lines r (depth + 1) t b l.3 h)),
    )
