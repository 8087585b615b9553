-- The answer to the question that a sheet states, by tests of what the search found: a certificate of ranks gives the least height and the plan written,
-- and a trap gives that there is none.
use mathlib.Core.Path.{subst}
use mathlib.Core.Logic.{inl, inr}
use mathlib.Core.List.{List, [], ◌∷◌}
use mathlib.Core.Bool.{Bool}
use Prim.Native.Nat.{ℕ}
use lib.Dec.{T, eqb, eqb→eq}
use Rattle.ground.specs.Digits.{digit, put, bit}
use Rattle.ground.specs.Search.{Least, all}
use Rattle.ground.specs.Table.{truth}
use Rattle.book_sound.specs.Sound.{in_order, tables_of}
use Rattle.book_block.specs.Rule.{table_place, rule, rule_place}
use Rattle.book.specs.Written.{book_of, setting_blocks}
use Rattle.book_block.specs.Sealed.{sealed, check_bytes, bytes16, head_block, setting_block}
use Rattle.knowledge_acts.specs.Seven.{start_told, now_told, after_set, after_look, first_digit}
use Rattle.knowledge_acts.specs.Acts.{byte_of, offered, set_to, look_at}
use Rattle.knowledge.specs.Number.{sum_of, first_at}
use Rattle.knowledge.specs.Fits.{agrees, fits, always}
use Rattle.knowledge.specs.Judgement.{judgement, known, learn_settled}
use Rattle.knowledge.specs.Goal.{learn_table, all_settled, goal_settled}
use Rattle.plan.specs.Without.{changes_nothing}
use Rattle.question.specs.Permitted.{ruled, permitted}
use Rattle.question.specs.Question.{system_of, start_of}
use Rattle.plan.specs.Plans.{System, Plan}
use Rattle.plan.specs.Ranks.{Reach, Cannot, IsRank, Written}
use Rattle.plan.proofs.Written.{written_works}
use Rattle.plan.proofs.States.{elem}
use Rattle.plan.proofs.Sample.{entry, ranked, writes, sample_rank, sample_written}
use Rattle.plan.proofs.Trap.{trap, trapped}
use Rattle.sheet_reading.specs.Sheet.{Sheet}
use Rattle.sheet_reading.specs.Grammar.{WellFormed}
use Rattle.sheet.specs.Answer.{SheetAsks, sheet_book}
use Rattle.sheet.proofs.SheetQuestion.{asked_lawful}
use Rattle.marked.proofs.Tests.{every, pick}
use Rattle.marked.proofs.Asked.{rights_in, question_in, goal_in, asks_so, asks}
use Rattle.marked.proofs.Search.{Certificate, sought}

abbrev pub book_in : Sheet → List ℕ
book_in s = sheet_book s (rights_in s)

abbrev pub system_in : Sheet → System
system_in s = system_of s.size.settings (book_in s) (question_in s) (goal_in s)

abbrev pub start_in : Sheet → ℕ
start_in s = start_of (question_in s)

-- what the search finds (who names it on an `unfolding` line unfolds all of a question, so that its tests compute)
unfoldable pub search_in : Sheet → Certificate
unfolding sought asks_so start_of sum_of first_at first_digit elem system_of goal_settled all_settled learn_table offered permitted ruled changes_nothing known learn_settled judgement always
    fits agrees start_told now_told after_set after_look set_to look_at digit put bit truth all rule rule_place table_place byte_of book_of head_block
    setting_blocks setting_block sealed check_bytes bytes16 in_order tables_of
search_in s = sought s.size.settings (system_in s) (start_in s)

-- the rank that is computed is the least height, where a plan is written
least_from : (S : System) (k h : ℕ) (p : Plan) → IsRank S k h → Written S k p → Least (Reach S k) h
least_from S k h p (inl l) w = l
least_from S k h p (inr n) w = absurd (n.1 p (written_works S p k w))

-- ---- a question that is reached

abbrev shown : Sheet → Certificate → List Bool
shown s c =
    let table : ℕ → ℕ = entry c.states c.ranks in
    asks_so s
    ∷ elem (start_in s) c.states
    ∷ ranked s.size.settings (system_in s) c.states table
    ∷ writes s.size.settings (system_in s) table c.plan (start_in s)
    ∷ eqb (table (start_in s)) c.height
    ∷ []

-- the height is the rank of the start, and the plan is the one written
unfoldable pub shows : Sheet → Certificate → Bool
unfolding every search_in entry ranked writes
shows s c = every (shown s c)

module _ (s : Sheet) (w : WellFormed s) (c : Certificate) (t : T (shows s c)) where
  pub shown-asks : SheetAsks s (rights_in s) (question_in s) (goal_in s)
  unfolding shows
  shown-asks = asks s (pick (shown s c) 0 t)

  there : T (elem (start_in s) c.states)
  unfolding shows
  there = pick (shown s c) 1 t

  pub shown-written : Written (system_in s) (start_in s) c.plan
  unfolding shows
  shown-written =
      sample_written c.states (entry c.states c.ranks) (asked_lawful w shown-asks) w.ruled.settings_most (pick (shown s c) 2 t) c.plan (start_in s) there
      (pick (shown s c) 3 t)

  pub shown-least : Least (Reach (system_in s) (start_in s)) c.height
  unfolding shows
  shown-least =
      let table : ℕ → ℕ = entry c.states c.ranks in
      let rank = sample_rank c.states table (asked_lawful w shown-asks) w.ruled.settings_most (pick (shown s c) 2 t) (start_in s) there in
      least_from (system_in s) (start_in s) c.height c.plan
      (subst (IsRank (system_in s) (start_in s)) (eqb→eq (table (start_in s)) c.height (pick (shown s c) 4 t)) rank) shown-written

-- ---- a question that no plan answers

abbrev caught : Sheet → List ℕ → List Bool
caught s states = asks_so s ∷ elem (start_in s) states ∷ trap s.size.settings (system_in s) states ∷ []

-- the states are a trap
unfoldable pub catches : Sheet → List ℕ → Bool
unfolding every search_in trap
catches s states = every (caught s states)

module _ (s : Sheet) (w : WellFormed s) (states : List ℕ) (t : T (catches s states)) where
  pub caught_asks : SheetAsks s (rights_in s) (question_in s) (goal_in s)
  unfolding catches
  caught_asks = asks s (pick (caught s states) 0 t)

  pub caught_none : Cannot (system_in s) (start_in s)
  unfolding catches
  caught_none = trapped (asked_lawful w caught_asks) states (pick (caught s states) 2 t) (start_in s) (pick (caught s states) 1 t)
